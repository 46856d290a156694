use Rattle.std.proofs.Common.{◌≤◌, length, sym, ◌∙◌, arith}
use Rattle.pm_pack.proofs.RingLaws.{edge-here, edge-more, edge-none}
use Rattle.pm_pack.proofs.past.corners.edge_in.Goals as goal

pub returns-then-is_parting : goal.returns-then-is_parting
returns-then-is_parting c =
    edge-here c.args.faces.now c.args.own c.args.other _ c.args.ring.now c.loop-spoke.spoke-index _
    (omega arith) (sym c.is_parting.ensures ∙ c.if-is_parting.true) c.loop-spoke.invariant

pub loop-spoke-preserved : goal.loop-spoke-preserved
loop-spoke-preserved c =
    edge-more c.args.faces.now c.args.own c.args.other _ c.args.ring.now c.loop-spoke.spoke-index _
    (omega arith) (sym c.is_parting.ensures ∙ c.if-is_parting.false) c.loop-spoke.invariant

pub returns : goal.returns
returns c =
    let done : length c.args.ring.now ≤ c.loop-spoke.spoke-index = omega arith in
    edge-none c.args.faces.now c.args.own c.args.other _ c.args.ring.now c.loop-spoke.spoke-index
    done c.loop-spoke.invariant
