use Rattle.std.proofs.Common.{◌≡◌, ℕ, ◌<◌, get_or, vec_len}
use Rattle.pm_queue.proofs.places.identity.Given as goal

abbrev pub invariant-loop-number : goal.invariant-loop-number
invariant-loop-number l = (vec_len l.numbers ≡ l.number) ×
    ((k : ℕ) → k < l.number → get_or l.numbers.items k 0 ≡ k)
