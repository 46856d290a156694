use Rattle.std.proofs.Common.{◌-ℤ◌, w32, w64, to_z, of_z, lit<, lit≤}
use Rattle.pm_base.proofs.ReadBack.{Computes, computed_small, difference_computes, widened}
use Rattle.pm_deviation.proofs.way.above.Goals as goal

difference_is : (c : goal.After-from-2)
    → Computes w64 (to_z w64 (of_z w64 c.from.result) -ℤ to_z w64 (of_z w64 c.from-2.result))
    (c.args.x -ℤ c.args.y) 65534
difference_is c =
    difference_computes w64 _ _ c.args.x c.args.y 32767 32767 65534
    (widened w32 w64 c.args.x c.from.result 32767 c.ranges.x c.from.ensures
    c.requires.x_small (lit< tt))
    (widened w32 w64 c.args.y c.from-2.result 32767 c.ranges.y c.from-2.ensures
    c.requires.y_small (lit< tt))
    c.requires.x_small c.requires.y_small (lit≤ tt) (lit< tt)

pub overflow_sub-result : goal.overflow_sub-result
overflow_sub-result c = (difference_is c).fits

pub returns-clause-value : goal.returns-clause-value
returns-clause-value c = (difference_is c).value

pub returns-clause-small : goal.returns-clause-small
returns-clause-small c = computed_small _ _ _ _ (difference_is c)
