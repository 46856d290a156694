use Rattle.std.proofs.Common.{◌^◌, FitsSigned, lit≤, lit<, rules}
use Rattle.std.proofs.Math.Nat.{le_trans}
use Rattle.std.proofs.lemmas.Int.{fits_signed_mul, to_z-of_z}
use mir.Syntax.{w128}
use Rattle.pm_base.proofs.Range.{abs_product}
use Rattle.obj_fit.proofs.rounded.wide.Goals as goal

pub overflow_mul-result : goal.overflow_mul-result
overflow_mul-result c =
    let fa = c.ranges.a in
    let fb = c.ranges.b in
    let ea = simp to_z-of_z at c.from.ensures in
    let eb = simp to_z-of_z at c.from-2.ensures in
    let f : FitsSigned w128 c.from.result = search rules in
    let g : FitsSigned w128 c.from-2.result = search rules in
    rw (to_z-of_z w128 c.from.result f, to_z-of_z w128 c.from-2.result g, ea, eb)
    (fits_signed_mul w128 c.args.a c.args.b 8589410312 (2 ^ 57) c.requires.a_small
    c.requires.b_small (lit< tt))

pub returns-clause-value : goal.returns-clause-value
returns-clause-value c =
    let fa = c.ranges.a in
    let fb = c.ranges.b in
    let ea = simp to_z-of_z at c.from.ensures in
    let eb = simp to_z-of_z at c.from-2.ensures in
    let f : FitsSigned w128 c.from.result = search rules in
    let g : FitsSigned w128 c.from-2.result = search rules in
    rw (to_z-of_z w128 c.from.result f, to_z-of_z w128 c.from-2.result g, ea, eb)
    (to_z-of_z w128 _
    (fits_signed_mul w128 c.args.a c.args.b 8589410312 (2 ^ 57) c.requires.a_small
    c.requires.b_small (lit< tt)))

pub returns-clause-small : goal.returns-clause-small
returns-clause-small c =
    rw (returns-clause-value c)
    (le_trans
    (abs_product c.args.a c.args.b 8589410312 (2 ^ 57) c.requires.a_small c.requires.b_small)
    (lit≤ tt))
