-- Numbers from 1 that were used, each at most once.
use Rattle.std.specs.Prelude.{◌≡◌, ℕ, ◌+◌, ◌<◌, List, length, Bool, false, ◌==◌, slice_index_or}
use Rattle.std.specs.List.{list_any}

abbrev pub is_used : List ℕ → ℕ → Bool
is_used used n = list_any (λ m. m == n) used

-- Flag k says whether the number k + 1 was used.
pub record AreMarked (flags : List Bool) (used : List ℕ) : Type 0 where
  pub each : (k : ℕ) → k < length flags → slice_index_or flags k false ≡ is_used used (k + 1)
