-- What the table of leaves keeps while faces are gone through.
use Rattle.std.specs.Prelude.{◌≡◌, ℕ, ◌<◌, ◌≤◌, ◌||◌, ◌==◌, Bool, max, None, Some, List, [], ◌∷◌}
use Rattle.std.specs.Prelude.{length, IfSome, slice_index_or}
use Rattle.pm_base.specs.Geometry.{dist2_of}
use Rattle.pm_base.specs.Place.{Place, origin}
use Rattle.pm_base.specs.Rounded.{root_up}
use Rattle.pm_forest.specs.declared.parts.Face.{Face}
use Rattle.pm_forest.specs.Forest.{Hierarchy, leaf_count}
use Rattle.pm_forest.specs.Places.{place_of_node}
use Rattle.pm_forest.specs.Tables.{leaf_node_of}
use Rattle.pm_forest.specs.Meshes.{leaf_place}
use Rattle.pm_bounds.specs.declared.leaves.LeafBounds.{LeafBounds}
use Rattle.pm_bounds.specs.declared.normal_box.NormalBox.{NormalBox}
use Rattle.pm_bounds.specs.Boxes.{box_at, join, IsSmallBox}
use Rattle.pm_bounds.specs.Bounds.{greatest, normal_of, leaf_radius, box_under}

-- A leaf at a place, at which no face has been seen yet.
abbrev pub bare_leaf_at : Place → LeafBounds
bare_leaf_at p = record { place = p; square = 0; normals = None }

-- Such leaves at the places of the first n leaves.
pub record AreBareLeaves (h : Hierarchy) (n : ℕ) (leaves : List LeafBounds) : Type 0 where
  pub len : length leaves ≡ n
  pub each : (l : ℕ) → l < n → slice_index_or leaves l (bare_leaf_at origin)
      ≡ bare_leaf_at (leaf_place h l)

-- A leaf whose square reaches as far as another, and that has a face's box within its own.
abbrev pub widened : LeafBounds → ℕ → NormalBox → LeafBounds
widened b square face = record {
  place = b.place;
  square = max b.square square;
  normals = join b.normals (Some face);
}

-- The squared distance of the farthest corner of a face from the place of node v.
unfoldable pub square_reach : Hierarchy → ℕ → Face → ℕ
square_reach h v f =
    let d = λ (x : ℕ). dist2_of (place_of_node h v) (leaf_place h x) in
    greatest (d f.a ∷ d f.b ∷ d f.c ∷ [])

-- The bounds of leaf l with a face more.
abbrev pub widened_by : Hierarchy → ℕ → Face → LeafBounds → LeafBounds
widened_by h l f b = widened b (square_reach h (leaf_node_of h l) f) (box_at (normal_of h f))

-- Leaf l is at a corner of the face.
abbrev pub is_leaf_corner : ℕ → Face → Bool
is_leaf_corner l f = l == f.a || l == f.b || l == f.c

-- No square and no box is large.
abbrev pub IsSmallLeaf : LeafBounds → Type 0
IsSmallLeaf b = (b.square ≤ 12884115468) × IfSome b.normals IsSmallBox

abbrev pub AreSmallLeaves : List LeafBounds → Type 0
AreSmallLeaves leaves =
    (l : ℕ) → l < length leaves → IsSmallLeaf (slice_index_or leaves l (bare_leaf_at origin))

-- The bounds of all leaves, by all faces.
pub record AreSeen (h : Hierarchy) (leaves : List LeafBounds) : Type 0 where
  pub len : length leaves ≡ leaf_count h
  pub radii : (l : ℕ) → l < leaf_count h
      → root_up (slice_index_or leaves l (bare_leaf_at origin)).square
      ≡ leaf_radius h (leaf_node_of h l)
  pub boxes : (l : ℕ) → l < leaf_count h → (slice_index_or leaves l (bare_leaf_at origin)).normals
      ≡ box_under h (leaf_node_of h l)
  pub small : AreSmallLeaves leaves
