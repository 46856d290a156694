use Rattle.std.proofs.Common.{◌≤◌, length, arith}
use Rattle.pm_pack.proofs.RingLaws.{shared-more, shared-all}
use Rattle.pm_pack.proofs.ring.Faces.share.Goals as goal

pub loop-spoke-preserved : goal.loop-spoke-preserved
loop-spoke-preserved c =
    shared-more c.loop-spoke.self _ _ c.args.end c.args.t c.args.u _ c.args.ring.now
    c.loop-spoke.spoke-index _ (omega arith) c.owner.ensures c.own.ensures c.loop-spoke.invariant

pub returns : goal.returns
returns c =
    let done : length c.args.ring.now ≤ c.loop-spoke.spoke-index = omega arith in
    shared-all c.loop-spoke.self _ c.args.end c.args.t c.args.u c.args.ring.now
    c.loop-spoke.spoke-index done c.loop-spoke.invariant
