use Rattle.std.proofs.Common.{◌^◌, lit<, lit≤}
use mir.Syntax.{w128}
use Rattle.std.specs.Prelude.{◌*ℤ◌}
use Rattle.pm_base.proofs.ReadBack.{read_is, product_computes, computed_small}
use Rattle.pm_fit.proofs.slopes.times.Goals as goal

pub returns-clause-value : goal.returns-clause-value
returns-clause-value c =
    (product_computes w128 _ _ c.args.a c.args.b (2 ^ 47) (2 ^ 20) (2 ^ 67)
    (read_is w128 c.args.a (2 ^ 47) c.requires.a_small (lit< tt))
    (read_is w128 c.args.b (2 ^ 20) c.requires.b_small (lit< tt))
    c.requires.a_small c.requires.b_small (lit≤ tt) (lit< tt)).value

pub returns-clause-small : goal.returns-clause-small
returns-clause-small c =
    computed_small w128 _ (c.args.a *ℤ c.args.b) (2 ^ 67)
    (product_computes w128 _ _ c.args.a c.args.b (2 ^ 47) (2 ^ 20) (2 ^ 67)
    (read_is w128 c.args.a (2 ^ 47) c.requires.a_small (lit< tt))
    (read_is w128 c.args.b (2 ^ 20) c.requires.b_small (lit< tt))
    c.requires.a_small c.requires.b_small (lit≤ tt) (lit< tt))
