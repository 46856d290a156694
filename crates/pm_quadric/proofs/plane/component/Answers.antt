use Rattle.std.proofs.Common.{w64, ◌*ℤ◌, FitsSigned, rules, arith, lit<}
use Rattle.std.proofs.lemmas.Int.{fits_signed_mul, to_z-of_z}
use Rattle.pm_base.proofs.Range.{abs_product}
use Rattle.pm_quadric.proofs.plane.component.Goals as goal

pub overflow_mul-result : goal.overflow_mul-result
overflow_mul-result c =
    let fa = c.ranges.a in
    let fx = c.ranges.x in
    let e = simp to_z-of_z at c.from.ensures in
    let fr : FitsSigned w64 c.from.result = search rules in
    rw (to_z-of_z w64 c.from.result fr, e) (simp to_z-of_z
    (fits_signed_mul w64 c.args.a c.args.x 8589410312 32767 c.requires.a_small c.requires.x_small
    (lit< tt)))

pub returns-clause-value : goal.returns-clause-value
returns-clause-value c =
    let fa = c.ranges.a in
    let fx = c.ranges.x in
    let e = simp to_z-of_z at c.from.ensures in
    let fr : FitsSigned w64 c.from.result = search rules in
    let f : FitsSigned w64 (c.args.a *ℤ c.args.x) =
    fits_signed_mul w64 c.args.a c.args.x 8589410312 32767 c.requires.a_small c.requires.x_small
    (lit< tt) in
    rw (to_z-of_z w64 c.from.result fr, e) (simp to_z-of_z)

pub returns-clause-small : goal.returns-clause-small
returns-clause-small c =
    rw (returns-clause-value c)
    (omega (
      arith,
      abs_product c.args.a c.args.x 8589410312 32767 c.requires.a_small
          c.requires.x_small,
    ))
