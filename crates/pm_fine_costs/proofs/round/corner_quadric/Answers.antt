use Rattle.std.proofs.Common.{◌∙◌, ap, sym}
use Rattle.pm_quadric.specs.Sums.{sums_of}
use Rattle.pm_runs.specs.Surfaces.{Surface}
use Rattle.pm_fine.specs.Normals.{doubled}
use Rattle.pm_fine_costs.specs.declared.corner.Corner.{Corner}
use Rattle.pm_fine_costs.specs.declared.corner.CornerNormals.{CornerNormals}
use Rattle.pm_fine_costs.specs.CornerPlanes.{normals_of, weighed, planes_with}
use Rattle.pm_fine_costs.proofs.CornerLaws.{planes_weighed}
use Rattle.pm_fine_costs.proofs.round.corner_quadric.Goals as goal

pub returns-clause-stands : goal.returns-clause-stands
returns-clause-stands c =
    let s : Surface = c.args.shrink.now.surface in
    let k : Corner = c.corner_of-corner.result in
    c.quadric_at.ensures.stands
    ∙ ap (λ (n : CornerNormals). sums_of (planes_with n k.at))
    (c.doubled.ensures ∙ ap (weighed doubled) c.of.ensures.value)
    ∙ ap (λ (x : Corner). sums_of (planes_with (weighed doubled (normals_of x)) x.at))
    c.corner_of-corner.ensures
    ∙ ap sums_of (sym (planes_weighed s c.args.side.0 doubled))
