-- The strips of a front, and their text.
use Rattle.std.specs.Prelude.{◌≡◌, ℕ, ◌+◌, ◌*◌, ◌<◌, nat_lt, Bool, true, false, ◌&&◌, cond, List}
use Rattle.std.specs.Prelude.{[], ◌∷◌, ◌++◌, length, map, Option, None, ◌↔◌, codes}
use Rattle.std.specs.List.{flat_map}
use Rattle.std.specs.Fmt.{decimal}
use Rattle.pm_base.specs.declared.mesh.Corners.{Corners}
use Rattle.pm_base.specs.Sides.{face_of}
use Rattle.pm_links.specs.Lists.{has, IsOnce}
use Rattle.pm_forest.specs.Forest.{Hierarchy}
use Rattle.pm_forest.specs.Fronts.{ancestor_of}
use Rattle.pm_forest.specs.Faces.{face_count, from_leaf}
use Rattle.pm_forest.specs.Kept.{is_kept}
use Rattle.pm_beyond.specs.Walks.{beyond_of}
use Rattle.pm_strips.specs.Strips.{strips_from, listed_nodes, decoded, IsTurnOf}

-- Face f is kept. At first these are the free faces.
abbrev pub is_there : Hierarchy → (ℕ → Bool) → ℕ → Bool
is_there h T f = nat_lt f (face_count h) && is_kept h T f

-- What stands beyond a side of a kept face.
abbrev pub beyond_in : Hierarchy → (ℕ → Bool) → ℕ → Option ℕ
beyond_in h T e = cond (is_there h T (face_of e)) (beyond_of h T e) None

-- The active node at which side e begins.
abbrev pub node_of_corner : Hierarchy → (ℕ → Bool) → ℕ → ℕ
node_of_corner h T e = ancestor_of h T (from_leaf h e)

-- The strips, each by the sides with which it comes to its triangles, and the list of each. No
-- strip has more triangles than there are faces.
unfoldable pub strips_of : Hierarchy → (ℕ → Bool) → List (List ℕ)
strips_of h T = strips_from (beyond_in h T) (face_count h) (face_count h) (is_there h T) 0

abbrev pub strip_lists_of : Hierarchy → (ℕ → Bool) → List (List ℕ)
strip_lists_of h T = map (listed_nodes (node_of_corner h T)) (strips_of h T)

-- A node in a list, with a space before it.
unfoldable pub node_text : ℕ → List ℕ
node_text v = codes " " ++ decimal v

-- `t` and the nodes of the list; and `strips C`, with the number of strips.
unfoldable pub strip_line : List ℕ → List ℕ
strip_line nodes = codes "t" ++ flat_map node_text nodes ++ codes "\n"

unfoldable pub count_line : ℕ → List ℕ
count_line strips = codes "strips " ++ decimal strips ++ codes "\n"

-- The text of the strips.
unfoldable pub strips_text : Hierarchy → (ℕ → Bool) → List ℕ
strips_text h T =
    flat_map strip_line (strip_lists_of h T) ++ count_line (length (strip_lists_of h T))

-- The list has each kept face once.
pub record HasEachOnce (h : Hierarchy) (T : ℕ → Bool) (faces : List ℕ) : Type 0 where
  pub each : (f : ℕ) → (has faces f ≡ true) ↔ ((f < face_count h) × (is_kept h T f ≡ true))
  pub once : IsOnce faces

-- The active nodes at the corners of face f.
abbrev pub corners_shown : Hierarchy → (ℕ → Bool) → ℕ → Corners
corners_shown h T f = record {
  a = node_of_corner h T (3 * f);
  b = node_of_corner h T (3 * f + 1);
  c = node_of_corner h T (3 * f + 2);
}

-- Each triangle is the face in its place, up to a turn of the corners.
abbrev pub AreTurned : (ℕ → Corners) → List ℕ → List Corners → Type 0
AreTurned shown [] [] = Unit {0}
AreTurned shown (f ∷ fs) (t ∷ ts) = IsTurnOf t (shown f) × AreTurned shown fs ts
AreTurned shown _ _ = ⊥

-- The triangles that the lists stand for, one list after the other, are the kept faces, each once.
pub record ShowTheMesh (h : Hierarchy) (T : ℕ → Bool) : Type 0 where
  pub faces : List ℕ
  pub kept : HasEachOnce h T faces
  pub triangles : AreTurned (corners_shown h T) faces
      (flat_map (decoded false) (strip_lists_of h T))
