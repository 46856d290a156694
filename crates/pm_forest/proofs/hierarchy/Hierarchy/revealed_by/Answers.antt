use Rattle.std.proofs.Common.{ap, ◌∙◌}
use Rattle.pm_forest.specs.Faces.{revealed_by}
use Rattle.pm_forest.proofs.HierarchyLaws.{all_units, revealed-base, revealed-lt}
use Rattle.pm_forest.proofs.hierarchy.Hierarchy.revealed_by.Goals as goal

pub returns-clause-none : goal.returns-clause-none
returns-clause-none c =
    let h = c.args.self.now in
    let f = c.args.f.0 in
    let whole = all_units c.self.inside.forest h c.self.invariant.1 c.self.view_is in
    rw (c.revealed_by.ensures ∙ ap (λ g. revealed_by g f) whole) (revealed-base h f c.requires)

pub returns-clause-below : goal.returns-clause-below
returns-clause-below c =
    let h = c.args.self.now in
    let f = c.args.f.0 in
    let whole = all_units c.self.inside.forest h c.self.invariant.1 c.self.view_is in
    rw (c.revealed_by.ensures ∙ ap (λ g. revealed_by g f) whole) (revealed-lt h f c.requires)
