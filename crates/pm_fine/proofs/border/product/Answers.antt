use Rattle.std.proofs.Common.{w64, ◌*ℤ◌, FitsSigned, arith, lit<}
use Rattle.std.proofs.lemmas.Int.{fits_signed_mul, to_z-of_z}
use Rattle.pm_base.proofs.Range.{abs_product}
use Rattle.pm_fine.proofs.border.product.Goals as goal

pub returns-clause-value : goal.returns-clause-value
returns-clause-value c =
    let fa = c.ranges.a in
    let fb = c.ranges.b in
    let f : FitsSigned w64 (c.args.a *ℤ c.args.b) =
    fits_signed_mul w64 c.args.a c.args.b 65534 8589410312 c.requires.a_small c.requires.b_small
    (lit< tt) in
    simp to_z-of_z

pub returns-clause-small : goal.returns-clause-small
returns-clause-small c =
    rw (returns-clause-value c)
    (omega (
      arith,
      abs_product c.args.a c.args.b 65534 8589410312 c.requires.a_small
          c.requires.b_small,
    ))
