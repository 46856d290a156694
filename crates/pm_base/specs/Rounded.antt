-- Square roots rounded up to whole numbers.
use Rattle.std.specs.Prelude.{zero, suc, if◌then◌else◌, nat_le, ℕ, ◌+◌, ◌*◌, ◌≤◌}
use Rattle.pm_base.specs.Place.{Place}
use Rattle.pm_base.specs.Geometry.{dist2_of}

-- The first number from k on, of the next f, whose square is at least n.
abbrev pub root_from : ℕ → ℕ → ℕ → ℕ
root_from zero k n = k
root_from (suc f) k n = if nat_le n (k * k) then k else root_from f (k + 1) n

-- The least number whose square is at least n.
unfoldable pub root_up : ℕ → ℕ
root_up n = root_from n 0 n

-- What that number is, without a search.
pub record IsRootUp (n r : ℕ) : Type 0 where
  pub enough : n ≤ r * r
  pub least : (m : ℕ) → n ≤ m * m → r ≤ m

-- How far apart two places are, rounded up.
abbrev pub distance_of : Place → Place → ℕ
distance_of p q = root_up (dist2_of p q)
