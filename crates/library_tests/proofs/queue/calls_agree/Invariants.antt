use Rattle.std.proofs.Common.{◌≡◌, length}
use Rattle.library_tests.proofs.queue.calls_agree.Given as goal

abbrev pub invariant-loop : goal.invariant-loop
invariant-loop l = length l.queue ≡ 12
