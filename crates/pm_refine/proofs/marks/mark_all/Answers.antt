use Rattle.std.proofs.Common.{◌<◌, ◌≤◌, length, arith, ◌∙◌}
use Rattle.pm_base.specs.Counts.{set_of}
use Rattle.pm_refine.proofs.MarkLaws.{one_more, all_joined}
use Rattle.pm_refine.proofs.marks.mark_all.Goals as goal

pub loop-need-preserved : goal.loop-need-preserved
loop-need-preserved c =
    let at : c.loop-need.need-index < length c.args.needed.now =
    omega (arith, c.loop-need-test.true) in
    record {
      len = c.mark.ensures.len ∙ c.loop-need.invariant.len;
      marked = one_more c.args.needed.now c.loop-need.need-index (set_of c.args.marks.now.items)
          (set_of c.loop-need.marks.items) (set_of c.mark.new.marks.items) at
          c.loop-need.invariant.marked c.mark.ensures.marked;
    }

pub returns-clause-marked : goal.returns-clause-marked
returns-clause-marked c =
    let all : length c.args.needed.now ≤ c.loop-need.need-index =
    omega (arith, c.loop-need-test.false) in
    all_joined c.args.needed.now c.loop-need.need-index (set_of c.args.marks.now.items)
    (set_of c.loop-need.marks.items) all c.loop-need.invariant.marked
