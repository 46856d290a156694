use Rattle.std.proofs.Common.{sym, subst}
use Rattle.pm_forest.specs.Fronts.{every}
use Rattle.pm_forest.proofs.ShapeLaws.{shape_is_forest}
use Rattle.pm_beyond.proofs.WalkTheory.{full}
use Rattle.pm_sides.specs.Stored.{AreStored}
use Rattle.pm_sides.proofs.StoredLaws.{full-stored}
use Rattle.pm_sides.proofs.table.SideTable.full.Goals as goal

pub returns : goal.returns
returns c =
    let h = c.args.h.now in
    let twins = c.requires.twins in
    subst (AreStored h every) (sym c.into_sides.ensures)
    (full-stored h c.args.twins.twins twins.sides twins.each
    (full h (shape_is_forest h c.invariant.ensures) c.requires.once))
