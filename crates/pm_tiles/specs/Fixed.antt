-- Fixed leaves, which no record touches, and borders whose sides have fixed ends.
use Rattle.std.specs.Prelude.{◌≡◌, ℕ, Bool}
use Rattle.pm_base.specs.Place.{Place}
use Rattle.pm_base.specs.Sides.{IsBorderSide}
use Rattle.pm_forest.specs.Forest.{Hierarchy, widths, root_of, Holds}
use Rattle.pm_forest.specs.Fronts.{ancestor_of}
use Rattle.pm_forest.specs.Faces.{from_leaf, to_leaf}
use Rattle.pm_forest.specs.Places.{place_of_node}
use Rattle.pm_beyond.specs.Walks.{leaf_net}

-- The root that leaf x is under.
abbrev pub root_over : Hierarchy → ℕ → ℕ
root_over h x = root_of (widths h) 0 x

-- A leaf is fixed if no other leaf is under its root.
abbrev pub IsFixed : Hierarchy → ℕ → Type 0
IsFixed h x = (y : ℕ) → Holds h (root_over h x) y → y ≡ x

-- Both ends of a side are fixed.
pub record HasFixedEnds (h : Hierarchy) (e : ℕ) : Type 0 where
  pub from : IsFixed h (from_leaf h e)
  pub to : IsFixed h (to_leaf h e)

-- The ends of each side that has no twin in the leaf mesh are fixed.
abbrev pub HasFixedBorder : Hierarchy → Type 0
HasFixedBorder h = (e : ℕ) → IsBorderSide (leaf_net h) e → HasFixedEnds h e

-- Where a front shows a leaf: at the place of its ancestor.
abbrev pub place_in_front : Hierarchy → (ℕ → Bool) → ℕ → Place
place_in_front h T x = place_of_node h (ancestor_of h T x)

-- A side of one hierarchy and a side of another are a seam: both are on the borders of their leaf
-- meshes, both have fixed ends, and they run between the same two places, one forth and one back.
pub record IsSeam (g h : Hierarchy) (e f : ℕ) : Type 0 where
  pub first : IsBorderSide (leaf_net g) e
  pub second : IsBorderSide (leaf_net h) f
  pub first_fixed : HasFixedEnds g e
  pub second_fixed : HasFixedEnds h f
  pub forth :
      place_of_node g (root_over g (from_leaf g e)) ≡ place_of_node h (root_over h (to_leaf h f))
  pub back :
      place_of_node g (root_over g (to_leaf g e)) ≡ place_of_node h (root_over h (from_leaf h f))
