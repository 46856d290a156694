-- Faces by number, and their sides. Side 3f + i of face f runs from corner i to the next corner.
use Rattle.std.specs.Prelude.{◌≡◌, ◌≢◌, ℕ, ◌+◌, ◌*◌, ◌%◌, ◌<◌, ◌==◌, nat_le, Bool, true, false}
use Rattle.std.specs.Prelude.{cond, ◌&&◌, List, [], ◌∷◌, ◌++◌, length, Option, Some, None, is_some}
use Rattle.std.specs.Prelude.{slice_index_or, unwrap_or}
use Rattle.std.specs.List.{flat_map}
use Rattle.std.proofs.Common.{zero, suc}
use Rattle.pm_base.specs.Sides.{face_of, next}
use Rattle.pm_base.specs.Counts.{one_if}
use Rattle.pm_forest.specs.declared.parts.Face.{Face}
use Rattle.pm_forest.specs.declared.parts.NewFace.{NewFace}
use Rattle.pm_forest.specs.declared.parts.Record.{Record}
use Rattle.pm_forest.specs.Forest.{Hierarchy, widths, record_at, record_count, leaf_count, s_of}
use Rattle.pm_forest.specs.Forest.{t_of, u_of, root_of, holds, Holds, HasForestShape}

-- The face that is there, if one is.
abbrev pub face_in : Option NewFace → List Face
face_in None = []
face_in (Some n) = n.face ∷ []

-- The faces of a record, the left one before the right one.
abbrev pub faces_in : Record → List Face
faces_in r = face_in r.left ++ face_in r.right

-- All faces in the order of their numbers: the base faces, and then those of the records in order.
unfoldable pub faces_of : Hierarchy → List Face
faces_of h = h.bases ++ flat_map faces_in h.records

abbrev pub no_face_corners : Face
no_face_corners = record { a = 0; b = 0; c = 0; input = 0 }

abbrev pub no_face : NewFace
no_face = record { face = no_face_corners; first = None; second = None }

-- The number of the first face of record k: how many faces come before it.
unfoldable pub first_face : Hierarchy → ℕ → ℕ
first_face h zero = length h.bases
first_face h (suc k) =
    first_face h k + one_if (is_some (record_at h k).left) + one_if (is_some (record_at h k).right)

abbrev pub face_count : Hierarchy → ℕ
face_count h = first_face h (record_count h)

-- The record that reveals face f; none for a base face.
unfoldable pub revealed_after : Hierarchy → ℕ → ℕ → Option ℕ
revealed_after h zero f = None
revealed_after h (suc k) f = cond (nat_le (first_face h k) f) (Some k) (revealed_after h k f)

abbrev pub revealed_by : Hierarchy → ℕ → Option ℕ
revealed_by h f = revealed_after h (record_count h) f

-- Face f of record k is its left face.
unfoldable pub is_left : Hierarchy → ℕ → ℕ → Bool
is_left h k f = is_some (record_at h k).left && (f == first_face h k)

abbrev pub new_face : Hierarchy → ℕ → ℕ → NewFace
new_face h k f =
    cond (is_left h k f) (unwrap_or (record_at h k).left no_face)
    (unwrap_or (record_at h k).right no_face)

abbrev pub corners_told_by : Hierarchy → ℕ → Option ℕ → Face
corners_told_by h f None = slice_index_or h.bases f no_face_corners
corners_told_by h f (Some k) = (new_face h k f).face

-- The corners of face f.
unfoldable pub corners_of : Hierarchy → ℕ → Face
corners_of h f = corners_told_by h f (revealed_by h f)

-- The leaves that side e runs from and to.
unfoldable pub from_leaf : Hierarchy → ℕ → ℕ
from_leaf h e = let k =
    corners_of h (face_of e) in cond (e % 3 == 0) k.a (cond (e % 3 == 1) k.b k.c)

abbrev pub to_leaf : Hierarchy → ℕ → ℕ
to_leaf h e = from_leaf h (next e)

-- The inner side of face f of record k: it runs from the t corner in a left face, from the u corner
-- in a right one.
unfoldable pub inner_of : Hierarchy → ℕ → ℕ → ℕ
inner_of h k f =
    let v = cond (is_left h k f) (t_of h k) (u_of h k) in
    cond (holds h v (from_leaf h (3 * f))) (3 * f)
    (cond (holds h v (from_leaf h (3 * f + 1))) (3 * f + 1) (3 * f + 2))

-- The record that reveals the face of side e.
abbrev pub record_of : Hierarchy → ℕ → Option ℕ
record_of h e = revealed_by h (face_of e)

-- What the rules of shape say of the faces: base faces have their corners under three roots; a new
-- face has one corner under t, one under u and one outside s, the left one running from t to u and
-- the right one from u to t.
pub record HasFaceShape (h : Hierarchy) : Type 0 where
  pub leaves : (e : ℕ) → e < 3 * face_count h → from_leaf h e < leaf_count h
  pub base : (e : ℕ) → e < 3 * face_count h → record_of h e ≡ None
      → root_of (widths h) 0 (from_leaf h e) ≢ root_of (widths h) 0 (to_leaf h e)
  pub left : (f k : ℕ) → f < face_count h → revealed_by h f ≡ Some k → is_left h k f ≡ true
      → let i = inner_of h k f in
      Holds h (t_of h k) (from_leaf h i) × Holds h (u_of h k) (to_leaf h i)
      × (holds h (s_of h k) (from_leaf h (next (next i))) ≡ false)
  pub right : (f k : ℕ) → f < face_count h → revealed_by h f ≡ Some k → is_left h k f ≡ false
      → let i = inner_of h k f in
      Holds h (u_of h k) (from_leaf h i) × Holds h (t_of h k) (to_leaf h i)
      × (holds h (s_of h k) (from_leaf h (next (next i))) ≡ false)

pub record IsForest (h : Hierarchy) : Type 0 where
  pub forest : HasForestShape h
  pub faces : HasFaceShape h
