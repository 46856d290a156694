use Rattle.std.proofs.Common.{◌≡◌}
use Rattle.pm_shrink.proofs.shrink.Shrink.note_all.Given as goal

abbrev pub invariant-loop-number : goal.invariant-loop-number
invariant-loop-number l = l.self ≡ l.fn.self
