use Rattle.pm_pack.proofs.PackLaws.{writes-none, writes-more, writes-all}
use Rattle.pm_pack.proofs.writing.write_words.Goals as goal

pub loop-word-init : goal.loop-word-init
loop-word-init g c = rw c.new-words.ensures (writes-none g.P.Predictor _ _ _)

pub loop-word-preserved : goal.loop-word-preserved
loop-word-preserved g c =
    writes-more g.P.Predictor _ _ _ _ _ _ _ _ _ _ _ c.loop-word.invariant c.in-Some.ensures
    (c.in_ok-code_next.ensures.wanted tt) c.in_ok-code_next.ensures.made
    c.in_ok-code_next.ensures.known

pub returns : goal.returns
returns g c =
    writes-all g.P.Predictor _ _ _ _ _ _ c.loop-word.invariant c.in_default.ensures
