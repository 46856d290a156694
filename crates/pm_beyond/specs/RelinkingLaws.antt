-- What one move changes of what stands beyond the sides, each as a statement.
use Rattle.std.specs.Prelude.{◌≡◌, ◌≢◌, ℕ, ◌*◌, ◌<◌, Bool, true, Option, Some}
use Rattle.pm_base.specs.Sides.{NoSideTwice}
use Rattle.pm_forest.specs.Forest.{Hierarchy, record_count}
use Rattle.pm_forest.specs.Fronts.{with, without}
use Rattle.pm_forest.specs.Faces.{face_count, record_of}
use Rattle.pm_forest.specs.Kept.{is_shown}
use Rattle.pm_forest.specs.Rules.{HasShape}
use Rattle.pm_beyond.specs.Walks.{leaf_net, across, IsOuter, Beyond, expected}
use Rattle.pm_beyond.specs.Valid.{IsValid}
use Rattle.pm_beyond.specs.Moves.{IsClosed, MaySplit}

-- Once record k is split, beyond each side of its faces stands what it tells, and beyond each
-- recorded neighbour the side that names it. Every other side of a shown face keeps what stood
-- beyond it.
pub record IsRelinkedBySplit (h : Hierarchy) (T : ℕ → Bool) (k : ℕ) : Type 0 where
  pub own : (e : ℕ) → e < 3 * face_count h → record_of h e ≡ Some k
      → Beyond h (with T k) e (expected h e)
  pub neighbour :
      (e b : ℕ) → e < 3 * face_count h → IsOuter h k e → expected h e ≡ Some b
      → Beyond h (with T k) b (Some e)
  pub other :
      (a : ℕ) (r : Option ℕ) → a < 3 * face_count h → is_shown h T a ≡ true → Beyond h T a r
      → ((e : ℕ) → e < 3 * face_count h → IsOuter h k e → expected h e ≢ Some a)
      → Beyond h (with T k) a r

abbrev pub SplitsRelinkTheirNeighbours : Type 0
SplitsRelinkTheirNeighbours =
    (h : Hierarchy) → IsValid h → (T : ℕ → Bool) → IsClosed h T → (k : ℕ) → k < record_count h
    → MaySplit h T k
    → IsRelinkedBySplit h T k

-- A side of another shown face has a side of record k's faces beyond it only if that is an outer
-- one which names it. Once k is collapsed, what is recorded at that face's other outer side stands
-- there, and all else stays.
pub record IsRelinkedByCollapse (h : Hierarchy) (T : ℕ → Bool) (k : ℕ) : Type 0 where
  pub outer :
      (a c : ℕ) → a < 3 * face_count h → c < 3 * face_count h → is_shown h T a ≡ true
      → record_of h a ≢ Some k
      → Beyond h T a (Some c) → record_of h c ≡ Some k → IsOuter h k c × (expected h c ≡ Some a)
  pub neighbour :
      (a c o : ℕ) → a < 3 * face_count h → c < 3 * face_count h → Beyond h T a (Some c)
      → record_of h c ≡ Some k
      → across h c ≡ Some o → Beyond h (without T k) a (expected h o)
  pub other :
      (a : ℕ) (r : Option ℕ) → Beyond h T a r → ((c : ℕ) → r ≡ Some c → record_of h c ≢ Some k)
      → Beyond h (without T k) a r

-- This asks only that the record is as told, as the opening does before each collapse.
abbrev pub CollapsesRelinkTheirNeighbours : Type 0
CollapsesRelinkTheirNeighbours =
    (h : Hierarchy) → HasShape h → NoSideTwice (leaf_net h) → (T : ℕ → Bool) → (k : ℕ)
    → k < record_count h
    → ((e : ℕ) → e < 3 * face_count h → record_of h e ≡ Some k → Beyond h T e (expected h e))
    → IsRelinkedByCollapse h T k
