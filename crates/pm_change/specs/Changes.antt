-- What changed between two fronts of a hierarchy: S is what the viewer was told last, G is now.
use Rattle.std.specs.Prelude.{ℕ, ◌+◌, ◌*◌, ◌==◌, Bool, not, ◌&&◌, ◌||◌, List, map, filter}
use Rattle.pm_base.specs.Counts.{numbers_below}
use Rattle.pm_forest.specs.Forest.{Hierarchy, node_count}
use Rattle.pm_forest.specs.Fronts.{is_active, ancestor_of}
use Rattle.pm_forest.specs.Faces.{face_count, from_leaf}
use Rattle.pm_forest.specs.Kept.{is_kept}
use Rattle.pm_morph.specs.Laws.{ShownFace, shown_face_at}
use Rattle.pm_change.specs.Shown.{ShownNode, shown_node_at}

-- A number that passed before and doesn't pass now.
abbrev pub is_gone : (ℕ → Bool) → (ℕ → Bool) → ℕ → Bool
is_gone before now i = before i && not (now i)

-- The nodes that were active and aren't.
abbrev pub is_gone_node : Hierarchy → (ℕ → Bool) → (ℕ → Bool) → ℕ → Bool
is_gone_node h S G v = is_gone (is_active h S) (is_active h G) v

abbrev pub gone_nodes : Hierarchy → (ℕ → Bool) → (ℕ → Bool) → List ℕ
gone_nodes h S G = filter (is_gone_node h S G) (numbers_below (node_count h))

-- The nodes that are active and weren't, with their places.
abbrev pub is_new_node : Hierarchy → (ℕ → Bool) → (ℕ → Bool) → ℕ → Bool
is_new_node h S G v = is_active h G v && not (is_active h S v)

abbrev pub new_nodes : Hierarchy → (ℕ → Bool) → (ℕ → Bool) → List ShownNode
new_nodes h S G = map (shown_node_at h) (filter (is_new_node h S G) (numbers_below (node_count h)))

-- The faces that were kept and aren't.
abbrev pub is_gone_face : Hierarchy → (ℕ → Bool) → (ℕ → Bool) → ℕ → Bool
is_gone_face h S G f = is_gone (is_kept h S) (is_kept h G) f

abbrev pub gone_faces : Hierarchy → (ℕ → Bool) → (ℕ → Bool) → List ℕ
gone_faces h S G = filter (is_gone_face h S G) (numbers_below (face_count h))

-- Corner e is at another node than before.
abbrev pub has_moved : Hierarchy → (ℕ → Bool) → (ℕ → Bool) → ℕ → Bool
has_moved h S G e = not (ancestor_of h S (from_leaf h e) == ancestor_of h G (from_leaf h e))

abbrev pub has_moved_corner : Hierarchy → (ℕ → Bool) → (ℕ → Bool) → ℕ → Bool
has_moved_corner h S G f =
    has_moved h S G (3 * f) || (has_moved h S G (3 * f + 1) || has_moved h S G (3 * f + 2))

-- The faces that are kept and weren't, or were with another corner; with their corners now.
unfoldable pub is_put : Hierarchy → (ℕ → Bool) → (ℕ → Bool) → ℕ → Bool
is_put h S G f = is_kept h G f && (not (is_kept h S f) || has_moved_corner h S G f)

abbrev pub put_faces : Hierarchy → (ℕ → Bool) → (ℕ → Bool) → List ShownFace
put_faces h S G = map (shown_face_at h G) (filter (is_put h S G) (numbers_below (face_count h)))

-- Corner e is at a node that wasn't active before.
abbrev pub is_at_new : Hierarchy → (ℕ → Bool) → (ℕ → Bool) → ℕ → Bool
is_at_new h S G e = not (is_active h S (ancestor_of h G (from_leaf h e)))

abbrev pub has_new_corner : Hierarchy → (ℕ → Bool) → (ℕ → Bool) → ℕ → Bool
has_new_corner h S G f =
    is_at_new h S G (3 * f) || (is_at_new h S G (3 * f + 1) || is_at_new h S G (3 * f + 2))

-- The change, in the order in which it is told.
pub record Change : Type 0 where
  pub gone_faces : List ℕ
  pub gone_nodes : List ℕ
  pub new_nodes : List ShownNode
  pub put_faces : List ShownFace

abbrev pub change_of : Hierarchy → (ℕ → Bool) → (ℕ → Bool) → Change
change_of h S G = record {
  gone_faces = gone_faces h S G;
  gone_nodes = gone_nodes h S G;
  new_nodes = new_nodes h S G;
  put_faces = put_faces h S G;
}
