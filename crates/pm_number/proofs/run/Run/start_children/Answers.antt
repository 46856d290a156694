use Rattle.std.proofs.Common.{◌≡◌, length, arith}
use Rattle.pm_number.proofs.StartLaws.{starts_more, starts_all, start-small}
use Rattle.pm_number.proofs.run.Run.start_children.Goals as goal

pub overflow_add-start : goal.overflow_add-start
overflow_add-start c =
    omega (
      arith,
      start-small c.requires.run c.loop-d.invariant c.step-collapse.ensures.value
          c.loop-d-test.true c.index-start.ensures
          (c.requires.widths.each c.step-collapse.result.now.t c.step-collapse.ensures.first),
    )

pub loop-d-preserved : goal.loop-d-preserved
loop-d-preserved c =
    starts_more c.requires.run.merging c.loop-d.invariant c.step-collapse.ensures.value
    c.loop-d-test.true c.index-start.ensures
    (c.requires.widths.each c.step-collapse.result.now.t c.step-collapse.ensures.first)

pub returns : goal.returns
returns c =
    let end : c.loop-d.d ≡ length c.args.self.now.log.now = omega arith in
    starts_all c.requires.run.merging (rw end at c.loop-d.invariant)
