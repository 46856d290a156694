use Rattle.std.proofs.Common.{◌^◌, w64}
use Rattle.std.specs.Prelude.{pos, ◌-ℤ◌}
use Rattle.pm_base.proofs.ReadBack.{Computes, computed_small}
use Rattle.pm_view.proofs.Ends.{read_below, below_computes, read_less, less_computes}
use Rattle.pm_view.proofs.facing.lower_end.Goals as goal

end_is : (c : goal.After-from-2)
    → Computes w64 (read_less (read_below c.from.result c.args.radius) c.from-2.result)
    (c.args.at -ℤ pos c.args.radius -ℤ c.args.eye) (2 ^ 40)
end_is c =
    less_computes (read_below c.from.result c.args.radius) (c.args.at -ℤ pos c.args.radius)
    c.args.eye c.from-2.result
    (below_computes c.args.at c.from.result c.args.radius c.ranges.at c.from.ensures
    c.requires.at_small c.requires.radius_small)
    c.ranges.eye c.from-2.ensures c.requires.eye_small

pub overflow_sub-result : goal.overflow_sub-result
overflow_sub-result c =
    (below_computes c.args.at c.from.result c.args.radius c.ranges.at c.from.ensures
    c.requires.at_small c.requires.radius_small).fits

pub overflow_sub-result-2 : goal.overflow_sub-result-2
overflow_sub-result-2 c = (end_is c).fits

pub returns-clause-value : goal.returns-clause-value
returns-clause-value c = (end_is c).value

pub returns-clause-small : goal.returns-clause-small
returns-clause-small c = computed_small _ _ _ _ (end_is c)
