use Rattle.std.proofs.Common.{◌<◌, ◌^◌, rules}
use Rattle.pm_fine.proofs.CutLaws.{kept_is, first_is}
use Rattle.pm_fine.proofs.matrix.digits_above.Goals as goal

pub returns-clause-value : goal.returns-clause-value
returns-clause-value c = search rules

pub returns-clause-kept : goal.returns-clause-kept
returns-clause-kept c =
    let fits : c.args.n < 2 ^ 128 = search rules in
    rw (returns-clause-value c) (kept_is c.args.n c.args.keep fits)

pub returns-clause-first : goal.returns-clause-first
returns-clause-first c more =
    let fits : c.args.n < 2 ^ 128 = search rules in
    rw (returns-clause-value c) (first_is c.args.n c.args.keep fits c.requires.some more)
