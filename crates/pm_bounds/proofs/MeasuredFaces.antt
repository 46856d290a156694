-- The sides of a face tell how far each of its corners reaches.
use Rattle.std.proofs.Common.{◌≡◌, ℕ, max, [], ◌∷◌, refl, arith}
use Rattle.std.proofs.lemmas.Grind.{common_steps}
use Rattle.std.specs.Prelude.{ℤ, ◌-ℤ◌, unsigned_abs}
use borrow.Author.Differences.{ints}
use Rattle.pm_base.specs.Geometry.{dist2_of, cross_of}
use Rattle.pm_base.specs.Place.{Place}
use Rattle.pm_forest.specs.declared.parts.Face.{Face}
use Rattle.pm_forest.specs.Forest.{Hierarchy}
use Rattle.pm_forest.specs.Tables.{leaf_node_of}
use Rattle.pm_forest.specs.Meshes.{leaf_place}
use Rattle.pm_bounds.specs.Boxes.{box_at}
use Rattle.pm_bounds.specs.Bounds.{greatest, normal_of}
use Rattle.pm_bounds.specs.Leaves.{square_reach}

-- A place isn't apart from itself, and two places are as far apart from either.
axis_same : (x : ℤ) → unsigned_abs (x -ℤ x) ≡ 0
axis_same x = omega (arith, ints)

axis_turned : (x y : ℤ) → unsigned_abs (x -ℤ y) ≡ unsigned_abs (y -ℤ x)
axis_turned x y = omega (arith, ints)

pub dist2-same : (p : Place) → dist2_of p p ≡ 0
dist2-same p = rw (axis_same p.x, axis_same p.y, axis_same p.z) refl

dist2-turned : (p q : Place) → dist2_of p q ≡ dist2_of q p
dist2-turned p q = rw (axis_turned p.x q.x, axis_turned p.y q.y, axis_turned p.z q.z) refl

-- So the greatest of a corner's distances from all three is that along its two sides.
greatest_a : (aa ab ac ca : ℕ) → aa ≡ 0 → ca ≡ ac → max ab ca ≡ greatest (aa ∷ ab ∷ ac ∷ [])
greatest_a aa ab ac ca same turned = omega (arith, same, turned)

greatest_b : (ba bb bc ab : ℕ) → bb ≡ 0 → ab ≡ ba → max ab bc ≡ greatest (ba ∷ bb ∷ bc ∷ [])
greatest_b ba bb bc ab same turned = omega (arith, same, turned)

greatest_c : (ca cb cc bc : ℕ) → cc ≡ 0 → bc ≡ cb → max bc ca ≡ greatest (ca ∷ cb ∷ cc ∷ [])
greatest_c ca cb cc bc same turned = omega (arith, same, turned)

-- What is read of a face: the places of its corners, and the squared distances along its sides.
pub record IsMeasured (h : Hierarchy) (f : Face) (a b c : Place) (ab bc ca : ℕ) : Type 0 where
  pub at_a : a ≡ leaf_place h f.a
  pub at_b : b ≡ leaf_place h f.b
  pub at_c : c ≡ leaf_place h f.c
  pub along_ab : ab ≡ dist2_of a b
  pub along_bc : bc ≡ dist2_of b c
  pub along_ca : ca ≡ dist2_of c a

module _ (h : Hierarchy) (f : Face) (a b c : Place) (ab bc ca : ℕ)
    (is : IsMeasured h f a b c ab bc ca) where
  pub reach_a : max ab ca ≡ square_reach h (leaf_node_of h f.a) f
  unfolding square_reach
  reach_a = grind (arith, common_steps, dist2-same, dist2-turned, greatest_a)

  pub reach_b : max ab bc ≡ square_reach h (leaf_node_of h f.b) f
  unfolding square_reach
  reach_b = grind (arith, common_steps, dist2-same, dist2-turned, greatest_b)

  pub reach_c : max bc ca ≡ square_reach h (leaf_node_of h f.c) f
  unfolding square_reach
  reach_c = grind (arith, common_steps, dist2-same, dist2-turned, greatest_c)

  pub own_normal : box_at (cross_of a b c) ≡ box_at (normal_of h f)
  own_normal = rw (is.at_a, is.at_b, is.at_c) refl
