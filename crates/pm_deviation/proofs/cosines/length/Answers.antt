use Rattle.std.proofs.Common.{◌≡◌, rules, arith, FitsSigned, w32}
use Rattle.std.proofs.lemmas.Int.{to_z-of_z}
use Rattle.pm_base.specs.Geometry.{norm2_of}
use Rattle.pm_deviation.specs.Normals.{direction_of}
use Rattle.pm_deviation.proofs.AxisLaws.{axis_is, ones_are, length_is}
use Rattle.pm_deviation.proofs.cosines.length.Goals as goal

pub returns-in-1-clause-value : goal.returns-in-1-clause-value
returns-in-1-clause-value c =
    let u = c.args.axis in
    let fx : FitsSigned w32 u.x = search rules in
    let fy : FitsSigned w32 u.y = search rules in
    let fz : FitsSigned w32 u.z = search rules in
    let x = simp to_z-of_z at c.unsigned_abs.ensures.value in
    let y = simp to_z-of_z at c.unsigned_abs-2.ensures.value in
    let z = simp to_z-of_z at c.unsigned_abs-3.ensures.value in
    let ones : norm2_of (direction_of u) ≡ 1 =
    omega (arith, ones_are u (axis_is u c.requires), x, y, z, c.in-1.is) in
    length_is u 1 16384 ones (omega arith) (omega arith)

pub returns-in-2-clause-value : goal.returns-in-2-clause-value
returns-in-2-clause-value c =
    let u = c.args.axis in
    let fx : FitsSigned w32 u.x = search rules in
    let fy : FitsSigned w32 u.y = search rules in
    let fz : FitsSigned w32 u.z = search rules in
    let x = simp to_z-of_z at c.unsigned_abs.ensures.value in
    let y = simp to_z-of_z at c.unsigned_abs-2.ensures.value in
    let z = simp to_z-of_z at c.unsigned_abs-3.ensures.value in
    let ones : norm2_of (direction_of u) ≡ 2 =
    omega (arith, ones_are u (axis_is u c.requires), x, y, z, c.in-2.is) in
    length_is u 2 23171 ones (omega arith) (omega arith)

pub returns-in_default-clause-value : goal.returns-in_default-clause-value
returns-in_default-clause-value c =
    let u = c.args.axis in
    let is = axis_is u c.requires in
    let fx : FitsSigned w32 u.x = search rules in
    let fy : FitsSigned w32 u.y = search rules in
    let fz : FitsSigned w32 u.z = search rules in
    let x = simp to_z-of_z at c.unsigned_abs.ensures.value in
    let y = simp to_z-of_z at c.unsigned_abs-2.ensures.value in
    let z = simp to_z-of_z at c.unsigned_abs-3.ensures.value in
    let ones : norm2_of (direction_of u) ≡ 3 =
    omega (arith, ones_are u is, is.x, is.y, is.z, is.some, x, y, z, c.in_default) in
    length_is u 3 28378 ones (omega arith) (omega arith)
