use Rattle.std.proofs.Common.{◌<◌, ◌≤◌, length, arith, ◌∙◌}
use Rattle.pm_base.specs.Counts.{set_of}
use Rattle.pm_refine.proofs.MarkLaws.{one_more, all_joined}
use Rattle.pm_refine.proofs.needs.push_all.Goals as goal

pub loop-need-preserved : goal.loop-need-preserved
loop-need-preserved c =
    let at : c.loop-need.need-index < length c.args.needed.now =
    omega (arith, c.loop-need-test.true) in
    record {
      len = c.push.ensures.work_len ∙ c.loop-need.invariant.len;
      joined = one_more c.args.needed.now c.loop-need.need-index (set_of c.args.work.now)
          (set_of c.loop-need.work) (set_of c.push.new.work) at c.loop-need.invariant.joined
          c.push.ensures.joined;
    }

pub returns-clause-joined : goal.returns-clause-joined
returns-clause-joined c =
    let all : length c.args.needed.now ≤ c.loop-need.need-index =
    omega (arith, c.loop-need-test.false) in
    all_joined c.args.needed.now c.loop-need.need-index (set_of c.args.work.now)
    (set_of c.loop-need.work) all c.loop-need.invariant.joined
