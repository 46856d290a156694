use Rattle.std.proofs.Common.{◌≤◌, ◌^◌, w64, to_z, of_z, lit<, lit≤}
use Rattle.std.specs.Prelude.{ℤ, ◌*ℤ◌, unsigned_abs}
use Rattle.pm_base.proofs.ReadBack.{Computes, computed_small, read_is, product_computes}
use Rattle.pm_view.proofs.small_ball.product.Goals as goal

product_is : (a b : ℤ) → unsigned_abs a ≤ 2 ^ 34 → unsigned_abs b ≤ 2 ^ 26
    → Computes w64 (to_z w64 (of_z w64 a) *ℤ to_z w64 (of_z w64 b)) (a *ℤ b) (2 ^ 60)
product_is a b p q =
    product_computes w64 (to_z w64 (of_z w64 a)) (to_z w64 (of_z w64 b)) a b (2 ^ 34) (2 ^ 26)
    (2 ^ 60) (read_is w64 a (2 ^ 34) p (lit< tt)) (read_is w64 b (2 ^ 26) q (lit< tt)) p q
    (lit≤ tt) (lit< tt)

pub returns-clause-value : goal.returns-clause-value
returns-clause-value c =
    (product_is c.args.a c.args.b c.requires.a_small c.requires.b_small).value

pub returns-clause-small : goal.returns-clause-small
returns-clause-small c =
    computed_small _ _ _ _ (product_is c.args.a c.args.b c.requires.a_small c.requires.b_small)
