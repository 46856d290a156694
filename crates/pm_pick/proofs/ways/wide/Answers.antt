use Rattle.std.proofs.Common.{◌^◌, w64, to_z, of_z, lit<, lit≤}
use mir.Syntax.{w128}
use Rattle.std.specs.Prelude.{◌*ℤ◌}
use Rattle.pm_base.proofs.ReadBack.{Computes, computed_small, wide_product}
use Rattle.pm_pick.proofs.ways.wide.Goals as goal

product_is : (c : goal.After-from-2)
    → Computes w128 (to_z w128 (of_z w128 c.from.result) *ℤ to_z w128 (of_z w128 c.from-2.result))
    (c.args.a *ℤ c.args.b) (2 ^ 76)
product_is c =
    wide_product w64 w128 c.from.result c.from-2.result c.args.a c.args.b (2 ^ 51) 16809982 (2 ^ 76)
    c.ranges.a c.ranges.b c.from.ensures c.from-2.ensures c.requires.a_small c.requires.b_small
    (lit< tt) (lit< tt) (lit≤ tt) (lit< tt)

pub overflow_mul-result : goal.overflow_mul-result
overflow_mul-result c = (product_is c).fits

pub returns-clause-value : goal.returns-clause-value
returns-clause-value c = (product_is c).value

pub returns-clause-small : goal.returns-clause-small
returns-clause-small c = computed_small _ _ _ _ (product_is c)
