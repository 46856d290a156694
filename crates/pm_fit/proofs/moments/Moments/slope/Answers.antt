use Rattle.std.proofs.Common.{◌^◌, refl, lit<}
use Rattle.pm_fine.specs.declared.matrix.Vector.{Vector}
use Rattle.pm_fit.specs.Fit.{slope_of}
use Rattle.pm_fit.proofs.ReadLaws.{read_as}
use Rattle.pm_fit.proofs.moments.Moments.slope.Goals as goal

pub returns-clause-value : goal.returns-clause-value
unfolding slope_of
returns-clause-value c =
    let k : Vector = slope_of c.args.self.now in
    let x = read_as (2 ^ 120) _ k.x (lit< tt) c.spread.ensures.small c.spread.ensures.value in
    let y = read_as (2 ^ 120) _ k.y (lit< tt) c.spread-2.ensures.small c.spread-2.ensures.value in
    let z = read_as (2 ^ 120) _ k.z (lit< tt) c.spread-3.ensures.small c.spread-3.ensures.value in
    rw (x, y, z) refl
