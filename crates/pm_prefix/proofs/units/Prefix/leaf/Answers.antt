use Rattle.std.proofs.Common.{◌-◌, arith, ap}
use Rattle.pm_prefix.specs.Prefix.{leaf_in}
use Rattle.pm_prefix.proofs.PrefixLaws.{some_before}
use Rattle.pm_prefix.proofs.units.Prefix.leaf.Goals as goal

pub overflow_sub-result : goal.overflow_sub-result
overflow_sub-result c =
    omega (arith, some_before c.args.self.now c.requires.prefix c.args.x c.requires.inside)

pub returns : goal.returns
unfolding leaf_in
returns c = ap (λ n. n - 1) c.before-2.ensures.value
