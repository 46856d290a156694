-- A vertex split on nets, seen from the net after it: t and u are the ends, s is the vertex before,
-- and beyond tells what stands beyond each side (Hoppe 1996, read backwards: the merge of t and u
-- gives the net before).
use Rattle.std.specs.Prelude.{◌≡◌, ◌≢◌, ℕ, Option, Some, ◌⊎◌}
use Rattle.pm_base.specs.Sides.{Net, next, prev, Stands, IsTwin, twin_of}
use Rattle.pm_base.specs.Fans.{IsPairAt}
use Rattle.pm_runs.specs.Pairs.{IsPair}
use Rattle.pm_runs.specs.Merged.{merged, IsFresh}

-- A face is put between e and g: e meets its side o, and its side r, before or after o, meets g.
pub record IsBetween (beyond : ℕ → Option ℕ) (e g : ℕ) : Type 0 where
  pub o : ℕ
  pub r : ℕ
  pub meets : beyond e ≡ Some o
  pub leaves : beyond r ≡ Some g
  pub sides : (r ≡ next o) ⊎ (r ≡ prev o)

-- What stands beyond a side has its ends, and the side stands beyond it. Beyond a side that was
-- there stands its twin of before, or a new face is between. From end to end there is at most one
-- new face, the two meet, and each has a side that meets one that was there.
pub record IsSplit (n : Net) (t u s : ℕ) (beyond : ℕ → Option ℕ) : Type 0 where
  pub differ : t ≢ u
  pub fresh : IsFresh n s
  pub ends : (e g : ℕ) → Stands n e → beyond e ≡ Some g → IsTwin n e g
  pub back : (e g : ℕ) → Stands n e → beyond e ≡ Some g → beyond g ≡ Some e
  pub kept : (e g : ℕ) → Stands (merged n t u s) e → twin_of (merged n t u s) e ≡ Some g
      → (beyond e ≡ Some g) ⊎ IsBetween beyond e g
  pub one : (p q x y : ℕ) → IsPair t u p q → (f : IsPairAt n p q x) (g : IsPairAt n p q y)
      → f.side ≡ g.side
  pub inner : (p q x y : ℕ) → IsPair t u p q → (f : IsPairAt n p q x) (g : IsPairAt n q p y)
      → beyond f.side ≡ Some g.side
  pub held : (p q x : ℕ) → IsPair t u p q → (f : IsPairAt n p q x) →
      (b : ℕ) × Stands (merged n t u s) b
      × ((beyond (next f.side) ≡ Some b) ⊎ (beyond (prev f.side) ≡ Some b))
