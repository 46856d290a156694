use Rattle.std.proofs.Common.{ap, ◌∙◌, subst}
use Rattle.pm_forest.specs.Forest.{splitter_of}
use Rattle.pm_forest.specs.Rules.{HasShape}
use Rattle.pm_forest.proofs.HierarchyLaws.{all_units, unsplit-single, splitter-lt}
use Rattle.pm_forest.proofs.hierarchy.Hierarchy.splitter.Goals as goal

pub returns-clause-none : goal.returns-clause-none
returns-clause-none c =
    let h = c.args.self.now in
    let v = c.args.node.0 in
    let whole = all_units c.self.inside.forest h c.self.invariant.1 c.self.view_is in
    let shape = subst HasShape c.self.view_is c.self.invariant.0 in
    rw (c.splitter.ensures ∙ ap (λ g. splitter_of g v) whole) (unsplit-single h shape v c.requires)

pub returns-clause-below : goal.returns-clause-below
returns-clause-below c =
    let h = c.args.self.now in
    let v = c.args.node.0 in
    let whole = all_units c.self.inside.forest h c.self.invariant.1 c.self.view_is in
    rw (c.splitter.ensures ∙ ap (λ g. splitter_of g v) whole) (splitter-lt h v)
