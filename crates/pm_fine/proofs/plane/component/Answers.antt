use Rattle.std.proofs.Common.{◌^◌, FitsSigned, w64, lit<, rules}
use Rattle.std.proofs.lemmas.Int.{fits_signed_mul, to_z-of_z}
use Rattle.pm_base.proofs.Range.{abs_product}
use Rattle.pm_fine.proofs.plane.component.Goals as goal

pub overflow_mul-result : goal.overflow_mul-result
overflow_mul-result c =
    let fa = c.ranges.a in
    let fb = c.ranges.x in
    let ea = simp to_z-of_z at c.from.ensures in
    let eb = simp to_z-of_z at c.from-2.ensures in
    let f : FitsSigned w64 c.from.result = search rules in
    let g : FitsSigned w64 c.from-2.result = search rules in
    rw (to_z-of_z w64 c.from.result f, to_z-of_z w64 c.from-2.result g, ea, eb)
    (fits_signed_mul w64 c.args.a c.args.x (2 ^ 27) 32767 c.requires.a_small c.requires.x_small
    (lit< tt))

pub returns-clause-value : goal.returns-clause-value
returns-clause-value c =
    let fa = c.ranges.a in
    let fb = c.ranges.x in
    let ea = simp to_z-of_z at c.from.ensures in
    let eb = simp to_z-of_z at c.from-2.ensures in
    let f : FitsSigned w64 c.from.result = search rules in
    let g : FitsSigned w64 c.from-2.result = search rules in
    rw (to_z-of_z w64 c.from.result f, to_z-of_z w64 c.from-2.result g, ea, eb)
    (to_z-of_z w64 _
    (fits_signed_mul w64 c.args.a c.args.x (2 ^ 27) 32767 c.requires.a_small c.requires.x_small
    (lit< tt)))

pub returns-clause-small : goal.returns-clause-small
returns-clause-small c =
    rw (returns-clause-value c)
    (abs_product c.args.a c.args.x (2 ^ 27) 32767 c.requires.a_small c.requires.x_small)
