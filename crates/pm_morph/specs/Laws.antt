-- The laws of geomorphs, for a hierarchy of the right shape and two fronts of which one is a part
-- of the other.
use Rattle.std.specs.Prelude.{◌≡◌, ℕ, ◌+◌, ◌*◌, ◌<◌, ◌==◌, Bool, true, false, not, ◌&&◌, List, map}
use Rattle.std.specs.Prelude.{filter, Some, None, ◌↔◌}
use Rattle.pm_forest.specs.Forest.{Hierarchy, record_count}
use Rattle.pm_forest.specs.Fronts.{IsFront, IsActive, ancestor_of}
use Rattle.pm_forest.specs.Faces.{from_leaf}
use Rattle.pm_forest.specs.Places.{place_of_node}
use Rattle.pm_forest.specs.Rules.{HasShape}
use Rattle.pm_front.specs.Shown.{kept_faces}
use Rattle.pm_frame.specs.Frame.{node_lines}
use Rattle.pm_morph.specs.Elders.{IsPart, IsElder, elder_of, unsplit_of}
use Rattle.pm_morph.specs.Interpolation.{morph_place_at}
use Rattle.pm_morph.specs.Texts.{moved_lines}

-- Each active node of the finer front has one elder.
abbrev pub EachNodeHasOneElder : Type 0
EachNodeHasOneElder =
    (h : Hierarchy) → HasShape h → (T S : ℕ → Bool) → IsFront h T → IsFront h S → IsPart h T S
    → (v : ℕ) → IsActive h S v
    → IsElder h T v (elder_of h T v) × ((e : ℕ) → IsElder h T v e → e ≡ elder_of h T v)

-- At the end of the way all nodes stand at their own places, as in the frame.
abbrev pub EndsAtTheFrame : Type 0
EndsAtTheFrame = (h : Hierarchy) (T S : ℕ → Bool) (b : ℕ) → 0 < b
    → moved_lines h T S b b ≡ node_lines h S

-- At its start each node stands at its elder's place.
abbrev pub StartsAtElders : Type 0
StartsAtElders = (h : Hierarchy) (T : ℕ → Bool) (b v : ℕ) → 0 < b
    → morph_place_at h T 0 b v ≡ place_of_node h (elder_of h T v)

-- A face that is shown: its number, and the nodes at its corners.
pub record ShownFace : Type 0 where
  pub number : ℕ
  pub a : ℕ
  pub b : ℕ
  pub c : ℕ

abbrev pub shown_face_at : Hierarchy → (ℕ → Bool) → ℕ → ShownFace
shown_face_at h T f = record {
  number = f;
  a = ancestor_of h T (from_leaf h (3 * f));
  b = ancestor_of h T (from_leaf h (3 * f + 1));
  c = ancestor_of h T (from_leaf h (3 * f + 2));
}

-- The faces that a front shows, ascending by number.
abbrev pub shown_faces : Hierarchy → (ℕ → Bool) → List ShownFace
shown_faces h T = map (shown_face_at h T) (kept_faces h T)

-- A face with each corner replaced by its elder, and whether its corners are three nodes.
abbrev pub with_elders : Hierarchy → (ℕ → Bool) → ShownFace → ShownFace
with_elders h T f = record {
  number = f.number;
  a = elder_of h T f.a;
  b = elder_of h T f.b;
  c = elder_of h T f.c;
}

abbrev pub has_three : ShownFace → Bool
has_three f = not (f.a == f.b) && (not (f.b == f.c) && not (f.c == f.a))

-- The faces of the finer front, with each corner replaced by its elder and without those that have
-- two equal corners, are the faces of the marked front, each once with its number.
abbrev pub EldersShowTheMarkedFront : Type 0
EldersShowTheMarkedFront =
    (h : Hierarchy) → HasShape h → (T S : ℕ → Bool) → IsFront h T → IsFront h S → IsPart h T S
    → filter has_three (map (with_elders h T) (shown_faces h S)) ≡ shown_faces h T

-- Record k is the least of T that isn't in S.
pub record IsFirstUnsplit (h : Hierarchy) (T S : ℕ → Bool) (k : ℕ) : Type 0 where
  pub number : k < record_count h
  pub marked : T k ≡ true
  pub unsplit : S k ≡ false
  pub least : (j : ℕ) → j < k → T j ≡ true → S j ≡ true

-- The record that is named is the least one; none is exactly where the one front is a part of the
-- other.
abbrev pub TheLeastIsNamed : Type 0
TheLeastIsNamed =
    (h : Hierarchy) (T S : ℕ → Bool)
    → ((unsplit_of h T S ≡ None) ↔ IsPart h T S)
    × ((k : ℕ) → (unsplit_of h T S ≡ Some k) ↔ IsFirstUnsplit h T S k)
