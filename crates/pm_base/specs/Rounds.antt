-- Fans by going round: the form in which proofs change them. Open and closed are one thing here,
-- and nothing is counted.
use Rattle.std.specs.Prelude.{ℕ}
use Rattle.pm_base.specs.Sides.{Net}
use Rattle.pm_base.specs.Fans.{IsPairAt}

-- From a on, from pair to pair round v.
pub data Goes (m : Net) (v : ℕ) : ℕ → ℕ → Type 0 where
  stay : {a : ℕ} → Goes m v a a
  on : {a x y : ℕ} → Goes m v a x → IsPairAt m v x y → Goes m v a y

-- Every pair at v is met by going on from one vertex.
abbrev pub IsRound : Net → ℕ → Type 0
IsRound m v = (a : ℕ) × ((x y : ℕ) → IsPairAt m v x y → Goes m v a x)

-- No two faces at v have the same three corners; they could only be in opposite orders.
abbrev pub NoMirrorAt : Net → ℕ → Type 0
NoMirrorAt m v = (x y : ℕ) → IsPairAt m v x y → IsPairAt m v y x → ⊥
