use Rattle.pm_base.specs.Counts.{set_of}
use Rattle.pm_beyond.proofs.Standing.{closed-front}
use Rattle.pm_io.proofs.PutLaws.{puts_same}
use Rattle.pm_change.proofs.CostLaws.{steps_few}
use Rattle.pm_change.proofs.PartLaws.{can_tell_sets, text_in-change}
use Rattle.pm_change.proofs.changer.Changer.write_counted.Goals as goal

pub write_sets-told-requires : goal.write_sets-told-requires
write_sets-told-requires g c =
    can_tell_sets c.args.front.now.h (set_of c.args.marks.now) (set_of c.args.front.now.flags)
    c.gather.new.self c.gather.ensures.sets

pub returns-clause-puts : goal.returns-clause-puts
returns-clause-puts g c =
    puts_same g.K.Sink _ _ _ _ _
    (text_in-change c.args.front.now.h (set_of c.args.marks.now) (set_of c.args.front.now.flags)
    c.gather.new.self c.gather.ensures.sets) c.write_sets-told.ensures.puts

pub returns-clause-cost : goal.returns-clause-cost
returns-clause-cost g c =
    let h = c.args.front.now.h in
    let S = set_of c.args.marks.now in
    let G = set_of c.args.front.now.flags in
    let e = c.invariant.ensures in
    steps_few h e.valid.shape S G (closed-front h S c.requires.marks.closed)
    (closed-front h G e.closed) c.gather.new.self c.gather.ensures.sets
    c.args.steps.now c.gather.new.steps c.write_sets-told.new.steps c.clear.new.steps
    c.gather.ensures.cost c.write_sets-told.ensures.cost c.clear.ensures.cost
