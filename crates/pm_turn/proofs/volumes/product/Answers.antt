use Rattle.std.proofs.Common.{◌^◌, w32, w64, to_z, of_z, lit<, lit≤}
use mir.Syntax.{w128}
use Rattle.std.specs.Prelude.{◌*ℤ◌}
use Rattle.pm_base.proofs.ReadBack.{Computes, computed_small, product_computes, widened}
use Rattle.pm_turn.proofs.volumes.product.Goals as goal

product_is : (c : goal.After-from-2)
    → Computes w128 (to_z w128 (of_z w128 c.from.result) *ℤ to_z w128 (of_z w128 c.from-2.result))
    (c.args.a *ℤ c.args.n) (2 ^ 49)
product_is c =
    product_computes w128 _ _ c.args.a c.args.n 32767 8589410312 (2 ^ 49)
    (widened w32 w128 c.args.a c.from.result 32767 c.ranges.a c.from.ensures
    c.requires.a_small (lit< tt))
    (widened w64 w128 c.args.n c.from-2.result 8589410312 c.ranges.n c.from-2.ensures
    c.requires.n_small (lit< tt))
    c.requires.a_small c.requires.n_small (lit≤ tt) (lit< tt)

pub overflow_mul-result : goal.overflow_mul-result
overflow_mul-result c = (product_is c).fits

pub returns-clause-value : goal.returns-clause-value
returns-clause-value c = (product_is c).value

pub returns-clause-small : goal.returns-clause-small
returns-clause-small c = computed_small _ _ _ _ (product_is c)
