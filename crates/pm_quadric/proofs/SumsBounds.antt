-- How far from 0 the sums over a list of face planes can be.
use Rattle.std.proofs.Common.{◌≡◌, ℕ, ◌+◌, ◌*◌, ◌^◌, ◌≤◌, List, [], ◌∷◌, length, subst, arith}
use Rattle.std.proofs.lemmas.Grind.{common_steps}
use Rattle.std.proofs.Common.{lit≤}
use Rattle.std.proofs.Math.Nat.{le_refl}
use Rattle.std.specs.Prelude.{ℤ, pos, ◌+ℤ◌, ◌*ℤ◌, unsigned_abs}
use Rattle.std.proofs.lemmas.Nat.{mul-le}
use Rattle.pm_base.proofs.Squares.{abs_plus}
use Rattle.pm_base.proofs.Range.{abs_product}
use Rattle.pm_quadric.specs.declared.quadric.TheConstants.{MOST_PLANES}
use Rattle.pm_quadric.specs.Planes.{Plane, AreFacePlanes}
use Rattle.pm_quadric.specs.Sums.{Sums, plus_sums, coefficients, sums_of}
use Rattle.pm_quadric.specs.Quadrics.{IsSmall}
use Rattle.pm_quadric.proofs.PlaneBounds.{IsSmallPlane, plane_small}

-- The sums over n planes are at most n times what one plane's coefficients are.
pub record IsWithin (n : ℕ) (s : Sums) : Type 0 where
  pub xx : unsigned_abs s.xx ≤ n * 2 ^ 67
  pub xy : unsigned_abs s.xy ≤ n * 2 ^ 67
  pub xz : unsigned_abs s.xz ≤ n * 2 ^ 67
  pub x : unsigned_abs s.x ≤ n * 2 ^ 84
  pub yy : unsigned_abs s.yy ≤ n * 2 ^ 67
  pub yz : unsigned_abs s.yz ≤ n * 2 ^ 67
  pub y : unsigned_abs s.y ≤ n * 2 ^ 84
  pub zz : unsigned_abs s.zz ≤ n * 2 ^ 67
  pub z : unsigned_abs s.z ≤ n * 2 ^ 84
  pub one : unsigned_abs s.one ≤ n * 2 ^ 100
  pub count : s.count ≡ n

-- A product, twice a product, and one more of n terms.
pub once : (a b : ℤ) (m n k : ℕ) → unsigned_abs a ≤ m → unsigned_abs b ≤ n → m * n ≤ k
    → unsigned_abs (a *ℤ b) ≤ k
once a b m n k p q r = omega (arith, abs_product a b m n p q)

pub twice : (a b : ℤ) (m n k : ℕ) → unsigned_abs a ≤ m → unsigned_abs b ≤ n → 2 * (m * n) ≤ k
    → unsigned_abs (pos 2 *ℤ (a *ℤ b)) ≤ k
twice a b m n k p q r =
    omega (arith, abs_product (pos 2) (a *ℤ b) 2 (m * n) (lit≤ tt) (abs_product a b m n p q))

pub one_more : (x y : ℤ) (n k : ℕ) → unsigned_abs x ≤ k → unsigned_abs y ≤ n * k
    → unsigned_abs (x +ℤ y) ≤ (n + 1) * k
one_more x y n k p q = omega (arith, abs_plus x y)

plane_more : (f : Plane) (s : Sums) (n : ℕ) → IsSmallPlane f → IsWithin n s
    → IsWithin (n + 1) (plus_sums (coefficients f) s)
plane_more f s n h w = record {
  xx = one_more (f.a *ℤ f.a) s.xx n (2 ^ 67)
      (once f.a f.a 8589410312 8589410312 (2 ^ 67) h.a h.a (lit≤ tt)) w.xx;
  xy = one_more (pos 2 *ℤ (f.a *ℤ f.b)) s.xy n (2 ^ 67)
      (twice f.a f.b 8589410312 8589410312 (2 ^ 67) h.a h.b (lit≤ tt)) w.xy;
  xz = one_more (pos 2 *ℤ (f.a *ℤ f.c)) s.xz n (2 ^ 67)
      (twice f.a f.c 8589410312 8589410312 (2 ^ 67) h.a h.c (lit≤ tt)) w.xz;
  x = one_more (pos 2 *ℤ (f.a *ℤ f.d)) s.x n (2 ^ 84)
      (twice f.a f.d 8589410312 844347623079912 (2 ^ 84) h.a h.d (lit≤ tt)) w.x;
  yy = one_more (f.b *ℤ f.b) s.yy n (2 ^ 67)
      (once f.b f.b 8589410312 8589410312 (2 ^ 67) h.b h.b (lit≤ tt)) w.yy;
  yz = one_more (pos 2 *ℤ (f.b *ℤ f.c)) s.yz n (2 ^ 67)
      (twice f.b f.c 8589410312 8589410312 (2 ^ 67) h.b h.c (lit≤ tt)) w.yz;
  y = one_more (pos 2 *ℤ (f.b *ℤ f.d)) s.y n (2 ^ 84)
      (twice f.b f.d 8589410312 844347623079912 (2 ^ 84) h.b h.d (lit≤ tt)) w.y;
  zz = one_more (f.c *ℤ f.c) s.zz n (2 ^ 67)
      (once f.c f.c 8589410312 8589410312 (2 ^ 67) h.c h.c (lit≤ tt)) w.zz;
  z = one_more (pos 2 *ℤ (f.c *ℤ f.d)) s.z n (2 ^ 84)
      (twice f.c f.d 8589410312 844347623079912 (2 ^ 84) h.c h.d (lit≤ tt)) w.z;
  one = one_more (f.d *ℤ f.d) s.one n (2 ^ 100)
      (once f.d f.d 844347623079912 844347623079912 (2 ^ 100) h.d h.d (lit≤ tt)) w.one;
  count = omega (arith, w.count);
}

pub sums_within : (fs : List Plane) → AreFacePlanes fs → IsWithin (length fs) (sums_of fs)
sums_within [] hs = grind (arith, common_steps)
sums_within (f ∷ fs) hs =
    let e : length fs + 1 ≡ length (f ∷ fs) = omega arith in
    subst (λ (n : ℕ). IsWithin n (sums_of (f ∷ fs))) e
    (plane_more f (sums_of fs) (length fs) (plane_small f hs.0) (sums_within fs hs.1))

-- With at most as many planes as a quadric can stand for.
at_most : (x n k m : ℕ) → x ≤ n * k → n ≤ MOST_PLANES → MOST_PLANES * k ≤ m → x ≤ m
at_most x n k m p q r = omega (arith, mul-le n k MOST_PLANES k q (le_refl k))

within_small : (n : ℕ) (s : Sums) → n ≤ MOST_PLANES → IsWithin n s → IsSmall s
within_small n s h w = grind (arith, common_steps, at_most)

pub sums_small : (fs : List Plane) → AreFacePlanes fs → length fs ≤ MOST_PLANES
    → IsSmall (sums_of fs)
sums_small fs hs few = within_small (length fs) (sums_of fs) few (sums_within fs hs)
