use Rattle.std.proofs.Common.{◌*ℤ◌, FitsSigned, w64, rules}
use Rattle.std.proofs.lemmas.Int.{to_z-of_z}
use Rattle.pm_ears.proofs.WordLaws.{product_small, fits_product}
use Rattle.pm_ears.proofs.spots.product.Goals as goal

pub overflow_mul-result : goal.overflow_mul-result
overflow_mul-result c =
    let fa = c.ranges.a in
    let fb = c.ranges.b in
    let ra : FitsSigned w64 c.from.result = search rules in
    let rb : FitsSigned w64 c.from-2.result = search rules in
    let a = simp to_z-of_z at c.from.ensures in
    let b = simp to_z-of_z at c.from-2.ensures in
    simp to_z-of_z (rw (a, b) (fits_product c.args.a c.args.b fa fb))

pub returns-clause-value : goal.returns-clause-value
returns-clause-value c =
    let fa = c.ranges.a in
    let fb = c.ranges.b in
    let ra : FitsSigned w64 c.from.result = search rules in
    let rb : FitsSigned w64 c.from-2.result = search rules in
    let a = simp to_z-of_z at c.from.ensures in
    let b = simp to_z-of_z at c.from-2.ensures in
    let f : FitsSigned w64 (c.args.a *ℤ c.args.b) = fits_product c.args.a c.args.b fa fb in
    simp to_z-of_z (rw (a, b) (simp to_z-of_z))

pub returns-clause-small : goal.returns-clause-small
returns-clause-small c =
    let fa = c.ranges.a in
    let fb = c.ranges.b in
    let ra : FitsSigned w64 c.from.result = search rules in
    let rb : FitsSigned w64 c.from-2.result = search rules in
    let a = simp to_z-of_z at c.from.ensures in
    let b = simp to_z-of_z at c.from-2.ensures in
    let f : FitsSigned w64 (c.args.a *ℤ c.args.b) = fits_product c.args.a c.args.b fa fb in
    simp to_z-of_z (rw (a, b) (simp to_z-of_z (product_small c.args.a c.args.b fa fb)))
