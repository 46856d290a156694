-- What a view of a hierarchy of the right shape may rest on: kept faces by their records, corners,
-- splits, and the climb to an ancestor.
use Rattle.std.proofs.Common.{◌≡◌, ℕ, ◌+◌, ◌*◌, ◌<◌, Bool, true, false, Some, ap, ◌∙◌, arith}
use Rattle.std.proofs.lemmas.Grind.{common_steps}
use Rattle.pm_base.specs.Sides.{face_of}
use Rattle.pm_forest.specs.Forest.{Hierarchy, leaf_count, s_of, maker_of}
use Rattle.pm_forest.specs.Fronts.{IsFront, made_in, ancestor_of, every}
use Rattle.pm_forest.specs.Faces.{face_count, revealed_by, corners_of, from_leaf}
use Rattle.pm_forest.specs.Kept.{is_kept, is_shown}
use Rattle.pm_forest.specs.Rules.{HasShape}
use Rattle.pm_forest.proofs.Climbing.{IsAbove, climb_start, climb_on, climb_lowers, climb_done}
use Rattle.pm_forest.proofs.Corners.{corner_a, corner_b, corner_c}
use Rattle.pm_forest.proofs.ShapeLaws.{shape_of_nodes, shape_of_faces, shape_is_forest}
use Rattle.pm_forest.proofs.Shown.{kept-shown}

-- Faces

shown_flag : (h : Hierarchy) (T : ℕ → Bool) (f : ℕ)
    → is_shown h T (3 * f) ≡ made_in T (revealed_by h f)
unfolding is_shown
shown_flag h T f = let face : face_of (3 * f) ≡ f =
    omega arith in ap (λ g. made_in T (revealed_by h g)) face

-- in a front the kept faces are the base faces and those of split records
pub kept_flag : (h : Hierarchy) → HasShape h → (T : ℕ → Bool) → IsFront h T → (f : ℕ)
    → f < face_count h →
    is_kept h T f ≡ made_in T (revealed_by h f)
kept_flag h shape T front f l =
    kept-shown h (shape_is_forest h shape) T front f l ∙ shown_flag h T f

-- The sides of face f run from its corners, which are leaves.
pub record HasCorners (h : Hierarchy) (f : ℕ) : Type 0 where
  pub a : from_leaf h (3 * f) ≡ (corners_of h f).a
  pub b : from_leaf h (3 * f + 1) ≡ (corners_of h f).b
  pub c : from_leaf h (3 * f + 2) ≡ (corners_of h f).c
  pub a_below : (corners_of h f).a < leaf_count h
  pub b_below : (corners_of h f).b < leaf_count h
  pub c_below : (corners_of h f).c < leaf_count h

pub corner_below : (h : Hierarchy) → HasShape h → (f : ℕ) → f < face_count h → HasCorners h f
corner_below h shape f l =
    grind (arith, common_steps, corner_a h f, corner_b h f, corner_c h f, shape_of_faces h shape)

-- Fronts

-- The climb to the ancestor of leaf x begins at the leaf's node in the full front, goes from a
-- child of a record that isn't split to the node of that record, always to a smaller number, and
-- ends at the ancestor.
module _ (h : Hierarchy) (shape : HasShape h) (T : ℕ → Bool) (x : ℕ) (x_lt : x < leaf_count h) where
  pub climb_begins : IsAbove h T x (ancestor_of h every x)
  climb_begins = climb_start h (shape_of_nodes h shape) T x x_lt

  pub climb_goes_on : (v k : ℕ) → IsAbove h T x v → maker_of h v ≡ Some k → T k ≡ false
      → IsAbove h T x (s_of h k)
  climb_goes_on v k above made unsplit =
      climb_on h (shape_of_nodes h shape) T x x_lt v k above made unsplit

  pub climb_goes_down : (v k : ℕ) → IsAbove h T x v → maker_of h v ≡ Some k → s_of h k < v
  climb_goes_down v k above made = climb_lowers h (shape_of_nodes h shape) T x x_lt v k above made

  pub climb_ends : IsFront h T → (v : ℕ) → IsAbove h T x v → made_in T (maker_of h v) ≡ true
      → v ≡ ancestor_of h T x
  climb_ends front v above made = climb_done h (shape_of_nodes h shape) T x x_lt front v above made
