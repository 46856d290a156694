use Rattle.std.proofs.Common.{◌≤◌, length, ◌∙◌, ap, arith}
use Rattle.pm_pack.specs.Planes.{both, way_to}
use Rattle.pm_pack.proofs.RingLaws.{normal-more, normal-all}
use Rattle.pm_pack.proofs.plane.normal.Goals as goal

pub loop-spoke-preserved : goal.loop-spoke-preserved
loop-spoke-preserved c =
    normal-more c.args.nodes.now c.args.node c.loop-spoke.sum c.loop-spoke.before _ _ _
    c.args.ring.now c.loop-spoke.spoke-index _ (omega arith)
    (c.way_to-way.ensures ∙ ap (way_to c.args.node) c.node_at.ensures)
    (c.both-sum.ensures ∙ ap (both c.loop-spoke.sum) c.cross.ensures)
    c.loop-spoke.invariant

pub returns : goal.returns
returns c =
    let done : length c.args.ring.now ≤ c.loop-spoke.spoke-index = omega arith in
    normal-all c.args.nodes.now c.args.node c.loop-spoke.sum c.loop-spoke.before _ c.args.ring.now
    c.loop-spoke.spoke-index done c.loop-spoke.invariant
