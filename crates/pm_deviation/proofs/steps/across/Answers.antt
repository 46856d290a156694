use Rattle.std.proofs.Common.{refl, pos, ◌-ℤ◌, FitsSigned, w64, lit<, rules}
use Rattle.std.proofs.lemmas.Int.{to_z-of_z}
use Rattle.pm_base.proofs.ReadBack.{fits_small}
use Rattle.pm_deviation.proofs.WordLaws.{zero_minus, minus_small}
use Rattle.pm_deviation.proofs.steps.across.Goals as goal

pub returns : goal.returns
returns c =
    let d = c.to-d.result in
    let is = c.to-d.ensures in
    let fx : FitsSigned w64 d.x = search rules in
    let fy : FitsSigned w64 d.y = search rules in
    let fz : FitsSigned w64 d.z = search rules in
    let mx : FitsSigned w64 (pos 0 -ℤ d.x) =
    fits_small w64 (pos 0 -ℤ d.x) 65534 (minus_small d.x 65534 is.x_small) (lit< tt) in
    let my : FitsSigned w64 (pos 0 -ℤ d.y) =
    fits_small w64 (pos 0 -ℤ d.y) 65534 (minus_small d.y 65534 is.y_small) (lit< tt) in
    let mz : FitsSigned w64 (pos 0 -ℤ d.z) =
    fits_small w64 (pos 0 -ℤ d.z) 65534 (minus_small d.z 65534 is.z_small) (lit< tt) in
    let x = simp to_z-of_z at c.most-about_x.ensures.value in
    let y = simp to_z-of_z at c.most-about_y.ensures.value in
    let z = simp to_z-of_z at c.most-about_z.ensures.value in
    rw (
      c.div_ceil.ensures,
      c.length.ensures,
      x,
      y,
      z,
      zero_minus d.x,
      zero_minus d.y,
      zero_minus d.z,
      is.x,
      is.y,
      is.z,
    )
    refl
