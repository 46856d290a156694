-- What the sets of a refiner hold.
use Rattle.std.specs.Prelude.{◌≡◌, ℕ, ◌<◌, ◌≤◌, ◌||◌, ◌&&◌, Bool, true, List, length}
use Rattle.pm_forest.specs.Forest.{Hierarchy, t_of, u_of, splitter_of}
use Rattle.pm_base.specs.Counts.{set_of}
use Rattle.pm_beyond.specs.Moves.{is_at}
use Rattle.pm_beyond.specs.Plans.{less}

-- What passes the new test is what passed the old one, and what passes p.
abbrev pub Joins : (ℕ → Bool) → (ℕ → Bool) → (ℕ → Bool) → Type 0
Joins old new p = (k : ℕ) → new k ≡ (old k || p k)

-- Record j splits node v, and the node is wanted.
abbrev pub leads_to : Hierarchy → (ℕ → Bool) → ℕ → ℕ → Bool
leads_to h wanted v j = is_at j (splitter_of h v) && wanted v

-- It splits a child of record k that is wanted.
abbrev pub leads_below : Hierarchy → (ℕ → Bool) → ℕ → ℕ → Bool
leads_below h wanted k j = leads_to h wanted (t_of h k) j || leads_to h wanted (u_of h k) j

-- Of n records, the set has exactly those from b on that pass the test.
pub record HoldsFrom (n : ℕ) (p : ℕ → Bool) (b : ℕ) (flags : List Bool) : Type 0 where
  pub len : length flags ≡ n
  pub there : (k : ℕ) → b ≤ k → k < n → p k ≡ true → set_of flags k ≡ true
  pub only : (k : ℕ) → set_of flags k ≡ true → (b ≤ k) × (p k ≡ true)

-- It has exactly those below b that pass the test.
pub record HoldsBelow (n : ℕ) (p : ℕ → Bool) (b : ℕ) (flags : List Bool) : Type 0 where
  pub len : length flags ≡ n
  pub there : (k : ℕ) → k < b → p k ≡ true → set_of flags k ≡ true
  pub only : (k : ℕ) → set_of flags k ≡ true → (k < b) × (p k ≡ true)

-- On the way from S to G: the records from b on that are to be split, and those that are to be
-- collapsed.
pub record HoldsMoves (n : ℕ) (S G : ℕ → Bool) (b : ℕ) (splits collapses : List Bool) : Type 0 where
  pub up : HoldsFrom n (less G S) b splits
  pub down : HoldsFrom n (less S G) b collapses
