use Rattle.std.proofs.Common.{◌≤◌, ◌*ℤ◌, unsigned_abs, w64, FitsSigned, lit<, arith, rules}
use Rattle.std.proofs.lemmas.Int.{fits_signed_mul, to_z-of_z}
use Rattle.pm_base.proofs.Range.{abs_product}
use Rattle.pm_deviation.proofs.unit_box.product.Goals as goal

pub overflow_mul-result : goal.overflow_mul-result
overflow_mul-result c =
    let fa = c.ranges.a in
    let fm = c.ranges.m in
    let fr : FitsSigned w64 c.from.result = search rules in
    let e = simp to_z-of_z at c.from.ensures in
    simp to_z-of_z
    (rw e (fits_signed_mul w64 c.args.a c.args.m 49152 65534 c.requires.a_small c.requires.m_small
    (lit< tt)))

pub returns-clause-value : goal.returns-clause-value
returns-clause-value c =
    let fa = c.ranges.a in
    let fm = c.ranges.m in
    let fr : FitsSigned w64 c.from.result = search rules in
    let e = simp to_z-of_z at c.from.ensures in
    let f : FitsSigned w64 (c.args.a *ℤ c.args.m) =
    fits_signed_mul w64 c.args.a c.args.m 49152 65534 c.requires.a_small c.requires.m_small
    (lit< tt) in
    simp to_z-of_z (rw e (simp to_z-of_z))

pub returns-clause-small : goal.returns-clause-small
returns-clause-small c =
    let fa = c.ranges.a in
    let fm = c.ranges.m in
    let fr : FitsSigned w64 c.from.result = search rules in
    let e = simp to_z-of_z at c.from.ensures in
    let f : FitsSigned w64 (c.args.a *ℤ c.args.m) =
    fits_signed_mul w64 c.args.a c.args.m 49152 65534 c.requires.a_small c.requires.m_small
    (lit< tt) in
    let most = abs_product c.args.a c.args.m 49152 65534 c.requires.a_small c.requires.m_small in
    let small : unsigned_abs (c.args.a *ℤ c.args.m) ≤ 3221127168 = omega (arith, most) in
    simp to_z-of_z (rw e (simp to_z-of_z small))
