use Rattle.std.proofs.Common.{◌≡◌, to_z, of_z, refl, rules}
use mir.Syntax.{w128}
use Rattle.pm_quadric.specs.Sums.{Sums}
use Rattle.pm_fine.specs.declared.matrix.Vector.{Vector}
use Rattle.pm_fine.specs.Fourth.{half_gradient}
use Rattle.pm_fine.proofs.fine_quadric.FineQuadric.half_gradient.Goals as goal

pub returns : goal.returns
returns c =
    let s : Sums = c.args.self.now in
    let v : Vector = half_gradient s c.args.m in
    let ex : to_z w128 (of_z w128 c.half_slope.result) ≡ v.x = search rules in
    let ey : to_z w128 (of_z w128 c.half_slope-2.result) ≡ v.y = search rules in
    let ez : to_z w128 (of_z w128 c.half_slope-3.result) ≡ v.z = search rules in
    rw (ex, ey, ez) refl
