-- The laws of closed sets of records of a valid hierarchy, each as a statement.
use Rattle.std.specs.Prelude.{◌≡◌, ◌≢◌, ℕ, ◌*◌, ◌<◌, ◌↔◌, Bool, true, false, Option, Some, None}
use Rattle.std.specs.List.{list_any}
use Rattle.std.specs.Prelude.{◌==◌}
use Rattle.pm_base.specs.Sides.{face_of}
use Rattle.pm_forest.specs.Forest.{Hierarchy, record_at, record_count}
use Rattle.pm_forest.specs.Fronts.{IsFront, below, with, without}
use Rattle.pm_forest.specs.Faces.{face_count, revealed_by, record_of}
use Rattle.pm_forest.specs.Kept.{is_kept}
use Rattle.pm_forest.specs.Moves.{neighbours_of}
use Rattle.pm_forest.specs.Rules.{HasShape}
use Rattle.pm_beyond.specs.declared.moves.MoveFault.TheVariants as faults
use Rattle.pm_beyond.specs.Walks.{IsOuter, across, Beyond, beyond_of, expected}
use Rattle.pm_beyond.specs.Valid.{IsValid}
use Rattle.pm_beyond.specs.Moves.{Needs, needs, IsClosed, MaySplit, MayCollapse, split_fault}
use Rattle.pm_beyond.specs.Moves.{collapse_fault}

-- What a record needs is older, so the records below any number are closed; and a closed set is a
-- front.
abbrev pub NeedsAreOlder : Type 0
NeedsAreOlder =
    (h : Hierarchy) → HasShape h
    → ((j k : ℕ) → j < record_count h → Needs h j k → k < j)
    × ((n : ℕ) → IsClosed h (below n))
    × ((T : ℕ → Bool) → IsClosed h T → IsFront h T)

-- A record of a closed set may be collapsed exactly where no record of the set needs it.
abbrev pub NeededIsNotCollapsible : Type 0
NeededIsNotCollapsible =
    (h : Hierarchy) → IsValid h → (T : ℕ → Bool) → IsClosed h T → (k : ℕ) → k < record_count h
    → T k ≡ true
    → MayCollapse h T k ↔ ((j : ℕ) → j < record_count h → T j ≡ true → Needs h j k → ⊥)

-- The moves that are legal in a closed set are those after which it is closed.
abbrev pub LegalMovesKeepSetsClosed : Type 0
LegalMovesKeepSetsClosed =
    (h : Hierarchy) → IsValid h → (T : ℕ → Bool) → IsClosed h T → (k : ℕ) → k < record_count h
    → (MaySplit h T k ↔ ((T k ≡ false) × IsClosed h (with T k)))
    × (MayCollapse h T k ↔ ((T k ≡ true) × IsClosed h (without T k)))

-- A side of a face that a split record greater than k reveals.
pub record IsOfGreater (h : Hierarchy) (T : ℕ → Bool) (k : ℕ) (r : Option ℕ) : Type 0 where
  pub side : ℕ
  pub reveals : ℕ
  pub is_side : r ≡ Some side
  pub of_record : record_of h side ≡ Some reveals
  pub is_split : T reveals ≡ true
  pub is_greater : k < reveals

-- Beyond an outer side of a split record stands what is recorded there, or a side of a greater
-- record.
abbrev pub GreaterRecordsBlock : Type 0
GreaterRecordsBlock =
    (h : Hierarchy) → IsValid h → (T : ℕ → Bool) → IsClosed h T → (k e : ℕ) → k < record_count h
    → T k ≡ true
    → e < 3 * face_count h → IsOuter h k e → beyond_of h T e ≢ expected h e
    → IsOfGreater h T k (beyond_of h T e)

-- Where record k may be split, its two recorded neighbours at each face stand beyond each other;
-- where one of them is missing, nothing stands beyond the other.
abbrev pub FourFacesAreEnough : Type 0
FourFacesAreEnough =
    (h : Hierarchy) → IsValid h → (T : ℕ → Bool) → IsClosed h T → (k o p b : ℕ) → k < record_count h
    → MaySplit h T k
    → o < 3 * face_count h → IsOuter h k o → across h o ≡ Some p → expected h o ≡ Some b
    → Beyond h T b (expected h p)

-- A move has no fault exactly where it is legal.
abbrev pub AnswersAreExact : Type 0
AnswersAreExact =
    (h : Hierarchy) → IsValid h → (T : ℕ → Bool) → IsClosed h T → (k : ℕ) → k < record_count h
    → ((split_fault h T k ≡ None) ↔ MaySplit h T k)
    × ((collapse_fault h T k ≡ None) ↔ MayCollapse h T k)

-- Face f isn't kept, and a side of it is recorded beside record k.
pub record IsDroppedNeighbour (h : Hierarchy) (T : ℕ → Bool) (k f : ℕ) : Type 0 where
  pub side : ℕ
  pub recorded : list_any (λ s. side == s) (neighbours_of (record_at h k)) ≡ true
  pub of_face : face_of side ≡ f
  pub dropped : is_kept h T f ≡ false

-- What blocks a split is the face of a recorded neighbour that isn't kept; what blocks a collapse
-- is a face that a split record reveals which is greater.
abbrev pub BlockingFacesAreNamed : Type 0
BlockingFacesAreNamed =
    (h : Hierarchy) → IsValid h → (T : ℕ → Bool) → IsClosed h T → (k f : ℕ) → k < record_count h
    → (split_fault h T k ≡ Some (faults.Blocked (record { 0 = f })) → IsDroppedNeighbour h T k f)
    × (collapse_fault h T k ≡ Some (faults.Blocked (record { 0 = f }))
    → (j : ℕ) × (revealed_by h f ≡ Some j) × (T j ≡ true) × (k < j))

-- The test of needs decides them.
abbrev pub NeedsAreDecided : Type 0
NeedsAreDecided = (h : Hierarchy) → (j k : ℕ) → j < record_count h
    → (needs h j k ≡ true) ↔ Needs h j k
