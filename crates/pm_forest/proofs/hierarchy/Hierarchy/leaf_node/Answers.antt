use Rattle.std.proofs.Common.{ap, ◌∙◌, subst}
use Rattle.pm_forest.specs.Rules.{HasShape}
use Rattle.pm_forest.specs.Tables.{leaf_node_of}
use Rattle.pm_forest.proofs.HierarchyLaws.{all_units, leaf_node-alone, leaf_node-lt}
use Rattle.pm_forest.proofs.FaceLimits.{leaf_nodes_of_shape}
use Rattle.pm_forest.proofs.hierarchy.Hierarchy.leaf_node.Goals as goal

pub leaf_node-requires-clause-single : goal.leaf_node-requires-clause-single
leaf_node-requires-clause-single c =
    let h = c.args.self.now in
    let whole = all_units c.self.inside.forest h c.self.invariant.1 c.self.view_is in
    let shape = subst HasShape c.self.view_is c.self.invariant.0 in
    rw whole (leaf_nodes_of_shape h shape c.args.leaf c.requires)

pub returns-clause-alone : goal.returns-clause-alone
returns-clause-alone c =
    let h = c.args.self.now in
    let x = c.args.leaf in
    let whole = all_units c.self.inside.forest h c.self.invariant.1 c.self.view_is in
    let shape = subst HasShape c.self.view_is c.self.invariant.0 in
    rw (c.leaf_node.ensures ∙ ap (λ g. leaf_node_of g x) whole)
    (leaf_node-alone h shape x c.requires)

pub returns-clause-node : goal.returns-clause-node
returns-clause-node c =
    let h = c.args.self.now in
    let x = c.args.leaf in
    let whole = all_units c.self.inside.forest h c.self.invariant.1 c.self.view_is in
    let shape = subst HasShape c.self.view_is c.self.invariant.0 in
    rw (c.leaf_node.ensures ∙ ap (λ g. leaf_node_of g x) whole) (leaf_node-lt h shape x c.requires)
