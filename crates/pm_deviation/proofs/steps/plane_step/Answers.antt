use Rattle.std.proofs.Common.{sym, subst}
use Rattle.pm_deviation.specs.declared.unit_box.UnitBox.{UnitBox}
use Rattle.pm_deviation.specs.Normals.{spread_of}
use Rattle.pm_deviation.specs.Tables.{IsSum}
use Rattle.pm_deviation.proofs.AxisLaws.{box_small}
use Rattle.pm_deviation.proofs.steps.plane_step.Goals as goal

pub way_along-requires-clause-x_small : goal.way_along-requires-clause-x_small
way_along-requires-clause-x_small c =
    let h = c.args.h.now in
    subst (λ (b : UnitBox). IsSum b.x)
    (sym (c.under.ensures h (spread_of h) c.requires.spreads)) (box_small h c.args.child.0).0

pub way_along-requires-clause-y_small : goal.way_along-requires-clause-y_small
way_along-requires-clause-y_small c =
    let h = c.args.h.now in
    subst (λ (b : UnitBox). IsSum b.y)
    (sym (c.under.ensures h (spread_of h) c.requires.spreads)) (box_small h c.args.child.0).1

pub way_along-requires-clause-z_small : goal.way_along-requires-clause-z_small
way_along-requires-clause-z_small c =
    let h = c.args.h.now in
    subst (λ (b : UnitBox). IsSum b.z)
    (sym (c.under.ensures h (spread_of h) c.requires.spreads)) (box_small h c.args.child.0).2
