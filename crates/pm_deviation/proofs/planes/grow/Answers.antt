use Rattle.std.proofs.Common.{◌≡◌, ℕ, suc, ◌<◌, ◌≤◌, ◌-◌, ◌*◌, ◌+◌, ◌^◌, get_or, set, List, ap, ◌∙◌}
use Rattle.std.proofs.Common.{subst, sym, arith}
use Rattle.pm_forest.specs.Forest.{record_count, node_count}
use Rattle.pm_forest.proofs.ShapeLaws.{shape_of_nodes}
use Rattle.pm_deviation.specs.Deviations.{over_planes, plane_deviation_of}
use Rattle.pm_deviation.proofs.StepLaws.{planes_of_children, planes_at_leaf, planes_at_split}
use Rattle.pm_deviation.proofs.UpwardLaws.{AreUpTo, up_none, up_more, up_all, up_small}
use Rattle.pm_deviation.proofs.planes.grow.Goals as goal

pub loop-k-init : goal.loop-k-init
loop-k-init c =
    let h = c.args.h.now in
    let shape = c.invariant.ensures in
    subst (AreUpTo h (plane_deviation_of h) c.args.table.now.items) (sym c.records-k.ensures.value)
    (up_none h shape (plane_deviation_of h) (planes_at_leaf h (shape_of_nodes h shape))
    c.args.table.now.items
    c.requires.zeros)

pub from_children-number-requires-clause-small : goal.from_children-number-requires-clause-small
from_children-number-requires-clause-small c =
    let h = c.args.h.now in
    let most = c.records-k.ensures.most in
    let few : record_count h ≤ 1048576 = omega (arith, c.records-k.ensures.value) in
    subst (λ (l : List ℕ). (v : ℕ) → v < node_count h → get_or l v 0 ≤ 2 ^ 38)
    (sym c.deref.ensures.value)
    (up_small h (plane_deviation_of h) c.loop-k.table.items c.loop-k.k few c.loop-k.invariant)

pub loop-k-preserved : goal.loop-k-preserved
loop-k-preserved c =
    let h = c.args.h.now in
    let shape = c.invariant.ensures in
    let old = c.loop-k.table.items in
    let k = c.loop-k.k - 1 in
    let x = c.from_children-number.result in
    let nodes = c.nodes_of-node.ensures in
    let value = plane_deviation_of h in
    let up = over_planes h in
    let m = 113509 * (record_count h - suc k) in
    let at : c.loop-k.k ≡ suc k = omega (arith, c.loop-k-test.true) in
    let below : k < record_count h = omega (arith, c.loop-k.auto.k, c.records-k.ensures.value) in
    let was : AreUpTo h value old (suc k) = subst (AreUpTo h value old) at c.loop-k.invariant in
    let is : x ≡ up (λ v. get_or old v 0) k =
    c.from_children-number.ensures.value
    ∙ ap (λ (l : List ℕ). up (λ v. get_or l v 0) k) c.deref.ensures.value in
    let small : x ≤ m + 113509 =
    c.from_children-number.ensures.small m
    (subst (λ (l : List ℕ). (v : ℕ) → v < node_count h → get_or l v 0 ≤ m)
    (sym c.deref.ensures.value) was.small) in
    subst (λ (s : ℕ). AreUpTo h value (set old s x) k) (sym nodes.s)
    (up_more h shape value up (planes_of_children h)
    (planes_at_split h (shape_of_nodes h shape)) old k x below nodes.t_node nodes.u_node was is
    small)

pub returns : goal.returns
returns c =
    let h = c.args.h.now in
    up_all h c.invariant.ensures (plane_deviation_of h) c.loop-k.k c.loop-k.table.items
    (omega (arith, c.loop-k-test.false)) c.loop-k.invariant
