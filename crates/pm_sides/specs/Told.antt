-- What stands beyond the sides of a record's faces, against what the record tells of them.
use Rattle.std.specs.Prelude.{◌≡◌, ℕ, ◌*◌, ◌<◌, Bool, true, ◌&&◌, List, length, Option, Some, None}
use Rattle.std.specs.Option.{option_map}
use Rattle.pm_base.specs.Sides.{beside_side, face_of, next}
use Rattle.pm_forest.specs.Forest.{Hierarchy}
use Rattle.pm_forest.specs.Faces.{face_count, revealed_by, record_of, inner_of, new_face}
use Rattle.pm_beyond.specs.Walks.{beyond_of, expected, number_of}
use Rattle.pm_beyond.specs.Moves.{same_side}
use Rattle.pm_sides.specs.declared.record_face.RecordFace.{RecordFace}

-- Beyond each side of the faces of record k stands what the record tells.
abbrev pub TellsAll : Hierarchy → (ℕ → Bool) → ℕ → Type 0
TellsAll h T k = (e : ℕ) → e < 3 * face_count h → record_of h e ≡ Some k
    → beyond_of h T e ≡ expected h e

-- This is face f of record k: its inner side, and what the record tells of it.
pub record IsFaceOf (h : Hierarchy) (k f : ℕ) (face : RecordFace) : Type 0 where
  pub there : f < face_count h
  pub own : revealed_by h f ≡ Some k
  pub inner : face.inner.0 ≡ inner_of h k f
  pub told : face.told.now ≡ new_face h k f

-- A table has all sides of the face of side i.
abbrev pub HasSides : List (Option ℕ) → ℕ → Type 0
HasSides table i = (e : ℕ) → face_of e ≡ face_of i → e < length table

-- The inner side of a face, if that is there.
abbrev pub inner_side : Option RecordFace → Option ℕ
inner_side face = number_of (option_map (λ f. f.inner) face)

-- A table has beside the sides of a record's face, if it is there, what the record tells: beside
-- the inner side it is that of the record's other face.
abbrev pub tells_face : List (Option ℕ) → Option RecordFace → Option RecordFace → Bool
tells_face table None other = true
tells_face table (Some face) other =
    let first = next face.inner.0 in
    (same_side (beside_side table first) (number_of face.told.now.first)
    && same_side (beside_side table (next first)) (number_of face.told.now.second))
    && same_side (beside_side table face.inner.0) (inner_side other)
