use Rattle.std.proofs.Common.{rules}
use Rattle.pm_fine.proofs.NearLaws.{near_small}
use Rattle.pm_fine.proofs.rounding.near.Goals as goal

pub returns-clause-value : goal.returns-clause-value
returns-clause-value c = search rules

pub returns-clause-within : goal.returns-clause-within
returns-clause-within c m h =
    rw (returns-clause-value c) (near_small c.args.a c.args.b m c.requires.some h)
