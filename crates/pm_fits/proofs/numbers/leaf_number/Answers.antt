use Rattle.std.proofs.Common.{rules}
use Rattle.pm_forest.proofs.MeshLaws.{vertex_below}
use Rattle.pm_fits.proofs.NumberLaws.{vertex_is, vertex_inside}
use Rattle.pm_fits.proofs.numbers.leaf_number.Goals as goal

pub bounds-vertices-leaf_node : goal.bounds-vertices-leaf_node
bounds-vertices-leaf_node c =
    rw (c.requires.vertices, c.leaf_node.ensures.value)
    (vertex_inside c.args.h.now c.invariant.ensures c.args.leaf c.requires.leaf)

pub bounds-values-vertex : goal.bounds-values-vertex
bounds-values-vertex c =
    let h = c.args.h.now in
    let is = vertex_is h c.invariant.ensures c.args.leaf c.requires.leaf in
    let below = vertex_below h c.invariant.ensures c.args.leaf c.requires.leaf in
    rw (c.requires.vertices, c.leaf_node.ensures.value, is, c.requires.len) below

pub returns : goal.returns
returns c =
    let h = c.args.h.now in
    let is = vertex_is h c.invariant.ensures c.args.leaf c.requires.leaf in
    rw (c.requires.vertices, c.leaf_node.ensures.value, is) (search rules)
