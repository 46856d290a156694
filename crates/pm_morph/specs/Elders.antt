-- Elders: the nodes of a marked front above the nodes of a finer one (Hoppe 1996, geomorphs).
use Rattle.std.specs.Prelude.{◌≡◌, ℕ, ◌<◌, Bool, true, cond, not, ◌&&◌, Option, Some, None}
use Rattle.std.proofs.Common.{zero, suc}
use Rattle.pm_forest.specs.Forest.{Hierarchy, record_count, interval_of, Holds}
use Rattle.pm_forest.specs.Fronts.{IsActive, ancestor_of}

-- All records of T are records of S: S is finer than T, or T itself.
abbrev pub IsPart : Hierarchy → (ℕ → Bool) → (ℕ → Bool) → Type 0
IsPart h T S = (k : ℕ) → k < record_count h → T k ≡ true → S k ≡ true

-- Node e is active in front T, and has all leaves below it that node v has.
pub record IsElder (h : Hierarchy) (T : ℕ → Bool) (v e : ℕ) : Type 0 where
  pub active : IsActive h T e
  pub above : (x : ℕ) → Holds h v x → Holds h e x

-- The elder as a function: the ancestor in T of the first leaf of v.
unfoldable pub elder_of : Hierarchy → (ℕ → Bool) → ℕ → ℕ
elder_of h T v = ancestor_of h T (interval_of h v).from

-- The least number below n that passes, if one does.
abbrev pub or_this : Option ℕ → Bool → ℕ → Option ℕ
or_this (Some k) passes n = Some k
or_this None passes n = cond passes (Some n) None

abbrev pub least_below : (ℕ → Bool) → ℕ → Option ℕ
least_below p zero = None
least_below p (suc n) = or_this (least_below p n) (p n) n

-- The least record of T that isn't in S. There is none exactly where T is a part of S.
unfoldable pub unsplit_of : Hierarchy → (ℕ → Bool) → (ℕ → Bool) → Option ℕ
unsplit_of h T S = least_below (λ k. T k && not (S k)) (record_count h)
