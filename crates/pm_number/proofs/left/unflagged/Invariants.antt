use Rattle.std.proofs.Common.{◌≡◌}
use Rattle.pm_number.specs.Numbering.{picked}
use Rattle.pm_number.specs.Tables.{is_unset}
use Rattle.pm_number.proofs.left.unflagged.Given as goal

abbrev pub invariant-loop-k : goal.invariant-loop-k
invariant-loop-k l = l.numbers.items ≡ picked (is_unset l.flags) 0 l.k
