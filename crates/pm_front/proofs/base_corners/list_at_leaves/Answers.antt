use Rattle.std.proofs.Common.{◌*◌, length, sym, ap, subst, arith}
use Rattle.pm_front.proofs.CornerTables.{Filling, last-free, last-listed, all-listed}
use Rattle.pm_front.proofs.BaseCorners.{filling-begins}
use Rattle.pm_front.proofs.base_corners.list_at_leaves.Goals as goal

pub loop-corner-init : goal.loop-corner-init
loop-corner-init c =
    let h = c.args.h.now in
    subst (λ n. Filling h (3 * length h.bases) n c.args.corners.now)
    (sym (ap (λ n. 3 * n) c.bases-corner.ensures.value))
    (filling-begins h c.args.corners.now c.requires)

pub push_front-requires-clause-free : goal.push_front-requires-clause-free
push_front-requires-clause-free c =
    last-free c.args.h.now (3 * length c.args.h.now.bases) c.loop-corner.corner
    c.loop-corner.corners c.loop-corner.invariant (omega (arith, c.loop-corner-test.true))

pub loop-corner-preserved : goal.loop-corner-preserved
loop-corner-preserved c =
    last-listed c.args.h.now (3 * length c.args.h.now.bases) c.loop-corner.corner
    c.leaf_node.result.0 c.leaf.result c.loop-corner.corners c.push_front.new.self
    c.loop-corner.invariant
    (omega (arith, c.loop-corner-test.true)) c.leaf.ensures.value c.leaf_node.ensures.value
    c.leaf_node.ensures.node c.push_front.ensures.lists

pub returns-clause-lists : goal.returns-clause-lists
returns-clause-lists c =
    all-listed c.args.h.now (3 * length c.args.h.now.bases) c.loop-corner.corner
    c.loop-corner.corners c.loop-corner.invariant (omega (arith, c.loop-corner-test.false))
