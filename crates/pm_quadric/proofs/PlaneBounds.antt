-- How far from 0 the numbers and the values of a face's plane can be.
use Rattle.std.proofs.Common.{◌≡◌, ℕ, ◌*◌, ◌^◌, ◌≤◌, ◌<◌, List, [], ◌∷◌, length, sym, subst, arith}
use Rattle.std.proofs.lemmas.Grind.{common_steps}
use Rattle.std.specs.Prelude.{ℤ, neg_ℤ, ◌+ℤ◌, ◌*ℤ◌, unsigned_abs}
use Rattle.std.proofs.lemmas.Nat.{mul-le}
use borrow.Author.Differences.{ints}
use Rattle.pm_base.specs.Place.{Place, IsPlace}
use Rattle.pm_base.proofs.Squares.{abs_plus}
use Rattle.pm_base.proofs.Range.{abs_product, cross_small}
use Rattle.pm_quadric.specs.declared.quadric.TheConstants.{MOST_PLANES}
use Rattle.pm_quadric.specs.Planes.{Plane, plane_value, plane_of, IsFacePlane, AreFacePlanes}
use Rattle.pm_quadric.specs.Planes.{squared_value, squares_of}

-- A number of a normal is at most 2 x 65,534 x 65,534, and the last number three times 32,767 times
-- that.
pub record IsSmallPlane (f : Plane) : Type 0 where
  pub a : unsigned_abs f.a ≤ 8589410312
  pub b : unsigned_abs f.b ≤ 8589410312
  pub c : unsigned_abs f.c ≤ 8589410312
  pub d : unsigned_abs f.d ≤ 844347623079912

abs_neg : (z : ℤ) → unsigned_abs (neg_ℤ z) ≡ unsigned_abs z
abs_neg z = omega (arith, ints)

three_small : (x y z : ℤ) (m : ℕ) → unsigned_abs x ≤ m → unsigned_abs y ≤ m → unsigned_abs z ≤ m
    → unsigned_abs (x +ℤ y +ℤ z) ≤ 3 * m
three_small x y z m p q r = omega (arith, abs_plus (x +ℤ y) z, abs_plus x y)

-- The product of a normal and a place.
along_small : (a b c x y z : ℤ) → unsigned_abs a ≤ 8589410312 → unsigned_abs b ≤ 8589410312
    → unsigned_abs c ≤ 8589410312
    → unsigned_abs x ≤ 32767 → unsigned_abs y ≤ 32767 → unsigned_abs z ≤ 32767
    → unsigned_abs (a *ℤ x +ℤ b *ℤ y +ℤ c *ℤ z) ≤ 844347623079912
along_small a b c x y z p q r s t u =
    three_small (a *ℤ x) (b *ℤ y) (c *ℤ z) 281449207693304 (abs_product a x 8589410312 32767 p s)
    (abs_product b y 8589410312 32767 q t) (abs_product c z 8589410312 32767 r u)

of_corners_small : (a b c : Place) → IsPlace a → IsPlace b → IsPlace c
    → IsSmallPlane (plane_of a b c)
of_corners_small a b c p q r =
    grind (arith, common_steps, abs_neg, along_small, cross_small a b c p q r)

pub plane_small : (f : Plane) → IsFacePlane f → IsSmallPlane f
plane_small f h =
    subst IsSmallPlane (sym h.plane)
    (of_corners_small h.first h.second h.third h.first_in_range h.second_in_range h.third_in_range)

-- A plane's value is at most twice the greatest last number, and its square below 2 ^ 102.
value_small : (f : Plane) (p : Place) → IsSmallPlane f → IsPlace p
    → unsigned_abs (plane_value f p) ≤ 1688695246159824
value_small f p s h = grind (arith, common_steps, abs_plus, along_small)

pub square_small : (f : Plane) (p : Place) → IsFacePlane f → IsPlace p → squared_value f p < 2 ^ 102
square_small f p h k =
    let v = value_small f p (plane_small f h) k in
    let w = mul-le (unsigned_abs (plane_value f p)) (unsigned_abs (plane_value f p))
    1688695246159824 1688695246159824 v v in
    omega (arith, w)

pub squares_small : (fs : List Plane) (p : Place) → AreFacePlanes fs → IsPlace p
    → squares_of fs p ≤ length fs * 2 ^ 102
squares_small [] p hs k = omega arith
squares_small (f ∷ fs) p hs k = omega (arith, square_small f p hs.0 k, squares_small fs p hs.1 k)

-- What the planes of a quadric can sum to.
pub squares_below : (fs : List Plane) (p : Place) → AreFacePlanes fs → length fs ≤ MOST_PLANES
    → IsPlace p → squares_of fs p < 2 ^ 124
squares_below fs p hs few k = omega (arith, squares_small fs p hs k, few)
