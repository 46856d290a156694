-- The laws of fixed leaves and fixed borders, each as a statement.
use Rattle.std.specs.Prelude.{◌≡◌, ℕ, ◌<◌, ◌↔◌, Bool}
use Rattle.pm_base.specs.Sides.{IsBorderSide}
use Rattle.pm_forest.specs.Forest.{Hierarchy, leaf_count}
use Rattle.pm_forest.specs.Fronts.{ancestor_of}
use Rattle.pm_forest.specs.Faces.{IsForest, from_leaf, to_leaf}
use Rattle.pm_forest.specs.Meshes.{input_mesh_of}
use Rattle.pm_runs.specs.Pairs.{Runs}
use Rattle.pm_beyond.specs.Walks.{leaf_net}
use Rattle.pm_beyond.specs.Moves.{IsClosed}
use Rattle.pm_firm.specs.Firm.{shown_net, IsFirm}
use Rattle.pm_tiles.specs.Fixed.{root_over, IsFixed, HasFixedBorder, place_in_front, IsSeam}
use Rattle.pm_tiles.specs.Borders.{ShowsBorder}

-- Whatever is split, a fixed leaf's ancestor is its root, and no other leaf has that ancestor.
abbrev pub FixedLeavesStay : Type 0
FixedLeavesStay =
    (h : Hierarchy) → IsForest h → (T : ℕ → Bool) → (x : ℕ) → x < leaf_count h → IsFixed h x →
    (ancestor_of h T x ≡ root_over h x) ×
    ((y : ℕ) → y < leaf_count h → ancestor_of h T y ≡ ancestor_of h T x → y ≡ x)

-- The sides that run between two fixed leaves are the same in every front: none comes, none goes.
abbrev pub FixedSidesStay : Type 0
FixedSidesStay =
    (h : Hierarchy) → IsForest h → (T : ℕ → Bool) → (x y : ℕ) → x < leaf_count h →
    y < leaf_count h → IsFixed h x → IsFixed h y → (e : ℕ) →
    Runs (shown_net h T) e (root_over h x) (root_over h y) ↔ Runs (leaf_net h) e x y

-- A front of a firm hierarchy with a fixed border has exactly the border sides of the leaf mesh.
abbrev pub BordersStay : Type 0
BordersStay =
    (h : Hierarchy) → IsFirm h → HasFixedBorder h → (T : ℕ → Bool) → IsClosed h T → (e : ℕ) →
    IsBorderSide (shown_net h T) e ↔ IsBorderSide (leaf_net h) e

-- So it shows the border of the hierarchy's input mesh.
abbrev pub FixedBordersAreShown : Type 0
FixedBordersAreShown =
    (h : Hierarchy) → IsFirm h → HasFixedBorder h → (T : ℕ → Bool) → IsClosed h T →
    ShowsBorder h T (input_mesh_of h)

-- Two hierarchies show a seam in each pair of fronts: both sides stand on the borders, and run
-- between the same two places.
pub record Meet (g h : Hierarchy) (S T : ℕ → Bool) (e f : ℕ) : Type 0 where
  pub first : IsBorderSide (shown_net g S) e
  pub second : IsBorderSide (shown_net h T) f
  pub forth : place_in_front g S (from_leaf g e) ≡ place_in_front h T (to_leaf h f)
  pub back : place_in_front g S (to_leaf g e) ≡ place_in_front h T (from_leaf h f)

abbrev pub TilesMeet : Type 0
TilesMeet =
    (g h : Hierarchy) → IsForest g → IsForest h → (e f : ℕ) → IsSeam g h e f → (S T : ℕ → Bool) →
    Meet g h S T e f
