-- Sides and nodes as the code reads them.
use Rattle.std.proofs.Common.{◌≡◌, ◌≢◌, ◌<◌, ℕ, ◌+◌, ◌*◌, leb, ltb, ◌&&◌}
use Rattle.std.proofs.Common.{arith, sym, ap, ◌∙◌}
use Rattle.pm_forest.proofs.Corners.{corner_a, corner_b, corner_c}
use Rattle.pm_forest.specs.Rules.{HasShape}
use Rattle.pm_forest.proofs.ViewLaws.{corner_below}
use Rattle.pm_forest.specs.Forest.{Hierarchy, Interval, leaf_count}
use Rattle.pm_forest.specs.Forest.{interval_of, within, holds}
use Rattle.pm_forest.specs.Faces.{face_count, from_leaf, corners_of}

pub holds_at : (h : Hierarchy) (v x : ℕ) (i : Interval) → interval_of h v ≡ i
    → holds h v x ≡ (leb i.from x && ltb x i.until)
unfolding holds
holds_at h v x i e = ap (λ j. within j x) e

-- The leaves at the corners of a face.
pub corner_first : (h : Hierarchy) (f i : ℕ) → i ≡ 0 → (corners_of h f).a ≡ from_leaf h (3 * f + i)
corner_first h f i is = let at : 3 * f ≡ 3 * f + i =
    omega arith in sym (corner_a h f).0 ∙ ap (from_leaf h) at

pub corner_second : (h : Hierarchy) (f i : ℕ) → i ≡ 1 → (corners_of h f).b ≡ from_leaf h (3 * f + i)
corner_second h f i is = let at : 3 * f + 1 ≡ 3 * f + i =
    omega arith in sym (corner_b h f).0 ∙ ap (from_leaf h) at

pub corner_third : (h : Hierarchy) (f i : ℕ) → i < 3 → i ≢ 0 → i ≢ 1
    → (corners_of h f).c ≡ from_leaf h (3 * f + i)
corner_third h f i l n m = let at : 3 * f + 2 ≡ 3 * f + i =
    omega arith in sym (corner_c h f).0 ∙ ap (from_leaf h) at

pub leaf_first : (h : Hierarchy) → HasShape h → (f : ℕ) → f < face_count h
    → (corners_of h f).a < leaf_count h
leaf_first h shape f l = (corner_below h shape f l).a_below

pub leaf_second : (h : Hierarchy) → HasShape h → (f : ℕ) → f < face_count h
    → (corners_of h f).b < leaf_count h
leaf_second h shape f l = (corner_below h shape f l).b_below

pub leaf_third : (h : Hierarchy) → HasShape h → (f : ℕ) → f < face_count h
    → (corners_of h f).c < leaf_count h
leaf_third h shape f l = (corner_below h shape f l).c_below
