use Rattle.std.proofs.Common.{◌≡◌, ◌<◌, get_or, set, ap, ◌∙◌, arith}
use Rattle.std.proofs.lemmas.List.{get_or_default}
use Rattle.pm_base.specs.Rounded.{root_up}
use Rattle.pm_base.specs.Place.{origin}
use Rattle.pm_forest.specs.Forest.{leaf_count}
use Rattle.pm_forest.specs.Tables.{leaf_node_of}
use Rattle.pm_bounds.specs.declared.leaves.LeafBounds.{LeafBounds}
use Rattle.pm_bounds.specs.Leaves.{bare_leaf_at}
use Rattle.pm_bounds.specs.Tables.{radii_of}
use Rattle.pm_bounds.proofs.NodeTables.{given_none, given_more, given_all}
use Rattle.pm_bounds.proofs.leaves.give_nodes.Goals as goal

pub loop-leaf-init : goal.loop-leaf-init
loop-leaf-init c =
    given_none c.args.h.now c.args.balls.now.items c.args.boxes.now.items c.requires.bare
    c.requires.missing

pub loop-leaf-preserved : goal.loop-leaf-preserved
loop-leaf-preserved c =
    let h = c.args.h.now in
    let leaves = c.args.leaves.now in
    let leaf = c.loop-leaf.leaf in
    let seen = c.index-leaves-leaf.result in
    let balls = c.loop-leaf.balls.items in
    let boxes = c.loop-leaf.boxes.items in
    let was = c.loop-leaf.invariant in
    let rooted = c.take_root.ensures in
    let below : leaf < leaf_count h =
    omega (arith, c.loop-leaf-test.true, c.leaves-leaf-end.ensures.value) in
    let read : seen ≡ get_or leaves leaf (bare_leaf_at origin) =
    c.index-leaves-leaf.is
    ∙ get_or_default leaves leaf seen (bare_leaf_at origin)
    (omega (arith, below, c.requires.leaves.len)) in
    let node = c.leaf_node-node.ensures.value in
    let root = λ (b : LeafBounds). root_up b.square in
    let own_box = λ (b : LeafBounds). b.normals in
    given_more h c.invariant.ensures leaves c.requires.leaves leaf below balls
    c.take_root.new.balls.items boxes _ was
    rooted.len rooted.places rooted.errors
    (rooted.radii ∙ ap (λ v. set (radii_of balls) v (root seen)) node
    ∙ ap (λ b. set (radii_of balls) (leaf_node_of h leaf) (root b)) read)
    rooted.small
    (ap (λ v. set boxes v (own_box seen)) node
    ∙ ap (λ b. set boxes (leaf_node_of h leaf) (own_box b)) read)

pub returns-clause-are : goal.returns-clause-are
returns-clause-are c =
    given_all c.args.h.now c.invariant.ensures c.loop-leaf.leaf c.loop-leaf.balls.items
    c.loop-leaf.boxes.items
    (omega (
      arith,
      c.loop-leaf-test.false,
      c.loop-leaf.auto.leaf-end,
      c.leaves-leaf-end.ensures.value,
    )) c.loop-leaf.invariant
