use Rattle.std.proofs.Common.{rules}
use Rattle.pm_fine.proofs.RootLaws.{minor_square}
use Rattle.pm_fine.proofs.border.minor.Goals as goal

pub returns-clause-value : goal.returns-clause-value
returns-clause-value c = search rules

pub returns-clause-square : goal.returns-clause-square
returns-clause-square c q h =
    rw (returns-clause-value c)
    (minor_square c.args.a c.args.b c.args.c c.args.d q c.requires.a_small c.requires.b_small h)
