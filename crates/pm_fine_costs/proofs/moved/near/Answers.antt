use Rattle.std.proofs.Common.{◌*◌, ◌^◌, arith, rules}
use Rattle.pm_fine_costs.proofs.NearLaws.{near_small}
use Rattle.pm_fine_costs.proofs.moved.near.Goals as goal

pub returns-clause-value : goal.returns-clause-value
returns-clause-value c = search rules

pub returns-clause-small : goal.returns-clause-small
returns-clause-small c =
    rw (returns-clause-value c)
    (near_small c.args.a c.args.b (3 * 2 ^ 124) c.requires.some
    (omega (arith, c.requires.a_small, c.requires.some)))
