use Rattle.std.proofs.Common.{◌≤◌, length, sym, ◌∙◌, arith}
use Rattle.pm_pack.proofs.RingLaws.{beside-here, beside-more, beside-none}
use Rattle.pm_pack.proofs.past.guessing.input_beside.Goals as goal

pub returns-then-is_leaf : goal.returns-then-is_leaf
returns-then-is_leaf c =
    beside-here c.args.nodes.now c.args.other _ c.args.ring.now c.loop-spoke.spoke-index _
    c.node_at-node.result (omega arith) c.node_at-node.ensures
    (sym c.is_leaf.ensures ∙ c.if-is_leaf.true) c.loop-spoke.invariant

pub loop-spoke-preserved : goal.loop-spoke-preserved
loop-spoke-preserved c =
    beside-more c.args.nodes.now c.args.other _ c.args.ring.now c.loop-spoke.spoke-index _
    c.node_at-node.result (omega arith) c.node_at-node.ensures
    (sym c.is_leaf.ensures ∙ c.if-is_leaf.false) c.loop-spoke.invariant

pub returns : goal.returns
returns c =
    let done : length c.args.ring.now ≤ c.loop-spoke.spoke-index = omega arith in
    beside-none c.args.nodes.now c.args.other _ c.args.ring.now c.loop-spoke.spoke-index done
    c.loop-spoke.invariant
