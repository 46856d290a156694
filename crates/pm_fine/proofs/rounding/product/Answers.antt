use Rattle.std.proofs.Common.{◌^◌, FitsSigned, lit<, rules}
use Rattle.std.proofs.lemmas.Int.{fits_signed_mul, to_z-of_z}
use mir.Syntax.{w128}
use Rattle.pm_base.proofs.Range.{abs_product}
use Rattle.pm_fine.proofs.Products.{abs_fits}
use Rattle.pm_fine.proofs.rounding.product.Goals as goal

pub overflow_mul-result : goal.overflow_mul-result
overflow_mul-result c =
    let fa = c.ranges.a in
    let fb = c.ranges.b in
    let ea = simp to_z-of_z at c.from.ensures in
    let eb = simp to_z-of_z at c.from-2.ensures in
    let f : FitsSigned w128 c.from.result = search rules in
    let g : FitsSigned w128 c.from-2.result = search rules in
    rw (to_z-of_z w128 c.from.result f, to_z-of_z w128 c.from-2.result g, ea, eb)
    (fits_signed_mul w128 c.args.a c.args.b (2 ^ 63) (2 ^ 63) (abs_fits c.args.a fa)
    (abs_fits c.args.b fb) (lit< tt))

pub returns-clause-value : goal.returns-clause-value
returns-clause-value c =
    let fa = c.ranges.a in
    let fb = c.ranges.b in
    let ea = simp to_z-of_z at c.from.ensures in
    let eb = simp to_z-of_z at c.from-2.ensures in
    let f : FitsSigned w128 c.from.result = search rules in
    let g : FitsSigned w128 c.from-2.result = search rules in
    rw (to_z-of_z w128 c.from.result f, to_z-of_z w128 c.from-2.result g, ea, eb)
    (to_z-of_z w128 _
    (fits_signed_mul w128 c.args.a c.args.b (2 ^ 63) (2 ^ 63) (abs_fits c.args.a fa)
    (abs_fits c.args.b fb) (lit< tt)))

pub returns-clause-small : goal.returns-clause-small
returns-clause-small c =
    rw (returns-clause-value c)
    (abs_product c.args.a c.args.b (2 ^ 63) (2 ^ 63) (abs_fits c.args.a c.ranges.a)
    (abs_fits c.args.b c.ranges.b))
