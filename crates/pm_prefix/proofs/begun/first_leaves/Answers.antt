use Rattle.std.proofs.Common.{◌≡◌, ◌+◌, ◌*◌, length, ap, arith}
use Rattle.pm_forest.specs.Forest.{interval_of}
use Rattle.pm_forest.proofs.UnitLaws.{counts_fit}
use Rattle.pm_prefix.proofs.Nodes.{node_within}
use Rattle.pm_prefix.proofs.ShapeUnits.{nodes_of_begun}
use Rattle.pm_prefix.proofs.TableLaws.{few_units, one_flag_more, flags_are}
use Rattle.pm_prefix.proofs.begun.first_leaves.Goals as goal

pub overflow_mul-node-end : goal.overflow_mul-node-end
overflow_mul-node-end c =
    omega (arith, few_units c.args.forest.now.counts c.args.forest.now.h c.requires.begun)

pub overflow_add-node-end : goal.overflow_add-node-end
overflow_add-node-end c =
    omega (arith, few_units c.args.forest.now.counts c.args.forest.now.h c.requires.begun)

pub index_mut-requires : goal.index_mut-requires
index_mut-requires c =
    let h = c.args.forest.now.h in
    let nodes = nodes_of_begun c.args.forest.now.counts h c.requires.begun in
    let inside = node_within h nodes c.loop-node.node (omega arith) in
    omega (arith, ap (λ i. i.from) c.interval-from.ensures, c.loop-node.invariant.len)

pub loop-node-preserved : goal.loop-node-preserved
loop-node-preserved c =
    let h = c.args.forest.now.h in
    let nodes = nodes_of_begun c.args.forest.now.counts h c.requires.begun in
    let from : (interval_of h c.loop-node.node).from ≡ c.interval-from.result.0 =
    ap (λ i. i.from) c.interval-from.ensures in
    rw from at (one_flag_more h nodes c.args.n c.requires.few c.loop-node.node
    c.loop-node.flags.items (omega arith) c.loop-node.invariant)

pub returns-clause-each : goal.returns-clause-each
returns-clause-each c =
    let h = c.args.forest.now.h in
    let nodes = nodes_of_begun c.args.forest.now.counts h c.requires.begun in
    let all : c.loop-node.node ≡ length h.roots + 2 * c.args.n = omega arith in
    flags_are h nodes c.args.n c.requires.few c.loop-node.flags.items
    (rw all at c.loop-node.invariant)

pub returns-clause-few : goal.returns-clause-few
returns-clause-few c =
    let counts = c.args.forest.now.counts in
    omega (arith, counts_fit counts c.requires.begun.counts, c.loop-node.invariant.len)
