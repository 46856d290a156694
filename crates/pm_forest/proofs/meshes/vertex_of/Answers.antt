use Rattle.std.proofs.Common.{◌-◌, arith}
use Rattle.std.proofs.lemmas.List.FromFn.{length-map-range_with_len, get_or-map-range_with_len}
use Rattle.pm_forest.specs.Forest.{leaf_count}
use Rattle.pm_forest.specs.Meshes.{leaf_input}
use Rattle.pm_forest.proofs.MeshLaws.{vertex_below}
use Rattle.pm_forest.proofs.meshes.vertex_of.Goals as goal

pub bounds-vertices-leaf : goal.bounds-vertices-leaf
bounds-vertices-leaf c =
    let h = c.args.h.now in
    rw (c.requires.table, length-map-range_with_len (λ x. leaf_input h x - 1) 0 (leaf_count h))
    c.requires.leaf

pub returns-clause-value : goal.returns-clause-value
returns-clause-value c =
    let h = c.args.h.now in
    let x = c.args.leaf in
    rw c.requires.table (get_or-map-range_with_len (λ x. leaf_input h x - 1) 0 (leaf_count h) x x 0
    c.requires.leaf (omega arith))

pub returns-clause-below : goal.returns-clause-below
returns-clause-below c =
    rw (returns-clause-value c)
    (vertex_below c.args.h.now c.invariant.ensures c.args.leaf c.requires.leaf)
