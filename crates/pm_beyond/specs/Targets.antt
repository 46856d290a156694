-- The target of a view: the least closed set that has each record whose node is wanted.
use Rattle.std.specs.Prelude.{◌≡◌, ℕ, zero, suc, ◌-◌, ◌<◌, ◌==◌, Bool, true, false, cond, ◌&&◌}
use Rattle.std.specs.Prelude.{◌||◌}
use Rattle.pm_forest.specs.Forest.{Hierarchy, record_count, s_of}
use Rattle.pm_beyond.specs.Moves.{IsClosed, needs}

-- Some number below n passes the test.
abbrev pub any_below : (ℕ → Bool) → ℕ → Bool
any_below p zero = false
any_below p (suc n) = p n || any_below p n

-- Whether record j is taken, once the last d records are decided, from the last one down: a record
-- is taken if its node is wanted or a record that was taken needs it.
unfoldable pub taken_after : Hierarchy → (ℕ → Bool) → ℕ → ℕ → Bool
taken_after h wanted zero j = false
taken_after h wanted (suc d) j =
    let k = record_count h - suc d in
    let is_needed = any_below (λ i. taken_after h wanted d i && needs h i k) (record_count h) in
    cond (j == k) (wanted (s_of h k) || is_needed) (taken_after h wanted d j)

-- The records that are taken once all are decided.
abbrev pub target_of : Hierarchy → (ℕ → Bool) → ℕ → Bool
target_of h wanted j = taken_after h wanted (record_count h) j

-- The set has each record whose node is wanted.
abbrev pub HasWanted : Hierarchy → (ℕ → Bool) → (ℕ → Bool) → Type 0
HasWanted h wanted T = (k : ℕ) → k < record_count h → wanted (s_of h k) ≡ true → T k ≡ true

-- G is closed, has each record whose node is wanted, and lies in every such set.
pub record IsTarget (h : Hierarchy) (wanted G : ℕ → Bool) : Type 0 where
  pub closed : IsClosed h G
  pub takes : HasWanted h wanted G
  pub least :
      (T : ℕ → Bool) → IsClosed h T → HasWanted h wanted T → (k : ℕ) → k < record_count h
      → G k ≡ true → T k ≡ true
