use Rattle.std.proofs.Common.{◌*◌, ◌^◌, ◌*ℤ◌, FitsSigned, lit≤, lit<}
use Rattle.std.proofs.Math.Nat.{le_trans}
use Rattle.std.proofs.lemmas.Int.{fits_signed_mul, to_z-of_z}
use mir.Syntax.{w128}
use Rattle.pm_base.proofs.Range.{abs_product}
use Rattle.pm_fine_costs.proofs.moved.product.Goals as goal

pub returns-clause-value : goal.returns-clause-value
returns-clause-value c =
    let fa = c.ranges.a in
    let fb = c.ranges.b in
    let f : FitsSigned w128 (c.args.a *ℤ c.args.b) =
    fits_signed_mul w128 c.args.a c.args.b (2 ^ 54) (3 * 2 ^ 70) c.requires.a_small
    c.requires.b_small (lit< tt) in
    simp to_z-of_z

pub returns-clause-small : goal.returns-clause-small
returns-clause-small c =
    rw (returns-clause-value c)
    (le_trans
    (abs_product c.args.a c.args.b (2 ^ 54) (3 * 2 ^ 70) c.requires.a_small c.requires.b_small)
    (lit≤ tt))
