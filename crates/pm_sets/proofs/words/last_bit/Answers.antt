use Rattle.std.proofs.Common.{arith}
use Rattle.pm_sets.proofs.WordLaws.{last_there, last_above}
use Rattle.pm_sets.proofs.words.last_bit.Goals as goal

pub returns-else-word-eq0-clause-there : goal.returns-else-word-eq0-clause-there
returns-else-word-eq0-clause-there c = last_there c.args.word (omega arith) (omega arith)

pub returns-else-word-eq0-clause-last : goal.returns-else-word-eq0-clause-last
returns-else-word-eq0-clause-last c =
    λ j after below. last_above c.args.word (omega arith) (omega arith) j after
