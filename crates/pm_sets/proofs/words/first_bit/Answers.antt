use Rattle.std.proofs.Common.{arith}
use Rattle.pm_sets.proofs.WordLaws.{gap_of_zero, first_there, first_below, first_gap}
use Rattle.pm_sets.proofs.words.first_bit.Goals as goal

pub returns-then-rest-eq0-clause-none : goal.returns-then-rest-eq0-clause-none
returns-then-rest-eq0-clause-none c = gap_of_zero c.args.word c.args.from 64 (omega arith)

pub returns-else-rest-eq0-clause-below : goal.returns-else-rest-eq0-clause-below
returns-else-rest-eq0-clause-below c =
    first_below c.args.word c.args.from (omega arith) (omega arith)

pub returns-else-rest-eq0-clause-there : goal.returns-else-rest-eq0-clause-there
returns-else-rest-eq0-clause-there c =
    first_there c.args.word c.args.from (omega arith) (omega arith)

pub returns-else-rest-eq0-clause-first : goal.returns-else-rest-eq0-clause-first
returns-else-rest-eq0-clause-first c = first_gap c.args.word c.args.from (omega arith) (omega arith)
