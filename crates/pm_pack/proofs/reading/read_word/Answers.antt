use Rattle.pm_pack.proofs.StepLaws.{cuts-at, fed-steps}
use Rattle.pm_pack.proofs.reading.read_word.Goals as goal

pub returns-in-Ok-clause-steps : goal.returns-in-Ok-clause-steps
returns-in-Ok-clause-steps g c = λ from code r.
    fed-steps g.P.Predictor from c.args.known.now c.code_next.new.self code c.args.text.now.items
    c.feed_word.new.text.items c.args.coder.now c.code_next.new.coder c.args.stream.now
    c.feed_word.new.stream c.in-Ok.word c.feed_word.result r c.in-Ok.ensures.below
    c.in-Ok.ensures.made c.in-Ok.ensures.known (c.feed_word.ensures.fed r.after)

pub returns-in-Err-Cut-clause-steps : goal.returns-in-Err-Cut-clause-steps
returns-in-Err-Cut-clause-steps g c = λ from code r.
    cuts-at g.P.Predictor from c.args.known.now code c.args.text.now.items c.args.coder.now
    c.args.stream.now r (c.in-Err-Cut.ensures.cut c.in-Err-Cut.field-0-is)
