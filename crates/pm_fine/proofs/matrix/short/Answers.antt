use Rattle.std.proofs.Common.{rules}
use Rattle.pm_fine.proofs.CutLaws.{short_within}
use Rattle.pm_fine.proofs.matrix.short.Goals as goal

pub returns-clause-value : goal.returns-clause-value
returns-clause-value c = search rules

pub returns-clause-within : goal.returns-clause-within
returns-clause-within c m h = rw (returns-clause-value c) (short_within c.args.v c.args.digits m h)
