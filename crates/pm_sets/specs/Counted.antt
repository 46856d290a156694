-- The numbers of a set in a range.
use Rattle.std.specs.Prelude.{ℕ, Bool, List, filter}
use Rattle.std.specs.List.{range_with_len}
use Rattle.pm_base.specs.Counts.{set_of}

-- The numbers of the set among the n from a on, ascending.
abbrev pub members_in : List Bool → ℕ → ℕ → List ℕ
members_in flags a n = filter (set_of flags) (range_with_len a n)
