use Rattle.std.proofs.Common.{w32, ◌*ℤ◌, FitsSigned, lit<}
use Rattle.std.proofs.lemmas.Int.{fits_signed_mul, to_z-of_z}
use Rattle.pm_base.proofs.Range.{abs_product}
use Rattle.pm_quadric.proofs.terms.product.Goals as goal

pub overflow_mul-result : goal.overflow_mul-result
overflow_mul-result c =
    let fx = c.ranges.x in
    let fy = c.ranges.y in
    simp to_z-of_z
    (fits_signed_mul w32 c.args.x c.args.y 32767 32767 c.requires.x_small c.requires.y_small
    (lit< tt))

pub returns-clause-small : goal.returns-clause-small
returns-clause-small c =
    let fx = c.ranges.x in
    let fy = c.ranges.y in
    let f : FitsSigned w32 (c.args.x *ℤ c.args.y) =
    fits_signed_mul w32 c.args.x c.args.y 32767 32767 c.requires.x_small c.requires.y_small
    (lit< tt) in
    simp to_z-of_z (abs_product c.args.x c.args.y 32767 32767 c.requires.x_small c.requires.y_small)

pub returns-clause-value : goal.returns-clause-value
returns-clause-value c =
    let fx = c.ranges.x in
    let fy = c.ranges.y in
    let f : FitsSigned w32 (c.args.x *ℤ c.args.y) =
    fits_signed_mul w32 c.args.x c.args.y 32767 32767 c.requires.x_small c.requires.y_small
    (lit< tt) in
    simp to_z-of_z
