-- How far from 0 the sums over a list of fine planes can be.
use Rattle.std.proofs.Common.{◌≡◌, ℕ, ◌+◌, ◌*◌, ◌^◌, ◌≤◌, List, [], ◌∷◌, length, arith}
use Rattle.std.proofs.lemmas.Grind.{common_steps}
use Rattle.std.proofs.Common.{lit≤}
use Rattle.std.proofs.Math.Nat.{le_refl}
use Rattle.std.specs.Prelude.{pos, ◌*ℤ◌, unsigned_abs}
use Rattle.std.proofs.lemmas.Nat.{mul-le}
use Rattle.pm_fine.specs.declared.fine_quadric.TheConstants.{MOST_FINE_PLANES}
use Rattle.pm_quadric.specs.Planes.{Plane}
use Rattle.pm_quadric.specs.Sums.{Sums, plus_sums, coefficients, sums_of}
use Rattle.pm_quadric.proofs.SumsBounds.{once, twice, one_more}
use Rattle.pm_fine.specs.FinePlanes.{IsFinePlane, AreFinePlanes}
use Rattle.pm_fine.specs.FineSums.{IsFineSmall}

-- The sums over n planes are at most n times what one plane's coefficients are.
pub record IsWithin (n : ℕ) (s : Sums) : Type 0 where
  pub xx : unsigned_abs s.xx ≤ n * 2 ^ 55
  pub xy : unsigned_abs s.xy ≤ n * 2 ^ 55
  pub xz : unsigned_abs s.xz ≤ n * 2 ^ 55
  pub x : unsigned_abs s.x ≤ n * 2 ^ 72
  pub yy : unsigned_abs s.yy ≤ n * 2 ^ 55
  pub yz : unsigned_abs s.yz ≤ n * 2 ^ 55
  pub y : unsigned_abs s.y ≤ n * 2 ^ 72
  pub zz : unsigned_abs s.zz ≤ n * 2 ^ 55
  pub z : unsigned_abs s.z ≤ n * 2 ^ 72
  pub one : unsigned_abs s.one ≤ n * 2 ^ 88
  pub count : s.count ≡ n

plane_more : (f : Plane) (s : Sums) (n : ℕ) → IsFinePlane f → IsWithin n s
    → IsWithin (n + 1) (plus_sums (coefficients f) s)
plane_more f s n h w = record {
  xx = one_more (f.a *ℤ f.a) s.xx n (2 ^ 55)
      (once f.a f.a 134217728 134217728 (2 ^ 55) h.a h.a (lit≤ tt)) w.xx;
  xy = one_more (pos 2 *ℤ (f.a *ℤ f.b)) s.xy n (2 ^ 55)
      (twice f.a f.b 134217728 134217728 (2 ^ 55) h.a h.b (lit≤ tt)) w.xy;
  xz = one_more (pos 2 *ℤ (f.a *ℤ f.c)) s.xz n (2 ^ 55)
      (twice f.a f.c 134217728 134217728 (2 ^ 55) h.a h.c (lit≤ tt)) w.xz;
  x = one_more (pos 2 *ℤ (f.a *ℤ f.d)) s.x n (2 ^ 72)
      (twice f.a f.d 134217728 13193736880128 (2 ^ 72) h.a h.d (lit≤ tt)) w.x;
  yy = one_more (f.b *ℤ f.b) s.yy n (2 ^ 55)
      (once f.b f.b 134217728 134217728 (2 ^ 55) h.b h.b (lit≤ tt)) w.yy;
  yz = one_more (pos 2 *ℤ (f.b *ℤ f.c)) s.yz n (2 ^ 55)
      (twice f.b f.c 134217728 134217728 (2 ^ 55) h.b h.c (lit≤ tt)) w.yz;
  y = one_more (pos 2 *ℤ (f.b *ℤ f.d)) s.y n (2 ^ 72)
      (twice f.b f.d 134217728 13193736880128 (2 ^ 72) h.b h.d (lit≤ tt)) w.y;
  zz = one_more (f.c *ℤ f.c) s.zz n (2 ^ 55)
      (once f.c f.c 134217728 134217728 (2 ^ 55) h.c h.c (lit≤ tt)) w.zz;
  z = one_more (pos 2 *ℤ (f.c *ℤ f.d)) s.z n (2 ^ 72)
      (twice f.c f.d 134217728 13193736880128 (2 ^ 72) h.c h.d (lit≤ tt)) w.z;
  one = one_more (f.d *ℤ f.d) s.one n (2 ^ 88)
      (once f.d f.d 13193736880128 13193736880128 (2 ^ 88) h.d h.d (lit≤ tt)) w.one;
  count = omega (arith, w.count);
}

pub sums_within : (fs : List Plane) → AreFinePlanes fs → IsWithin (length fs) (sums_of fs)
sums_within [] hs = grind (arith, common_steps)
sums_within (f ∷ fs) hs =
    grind (arith, common_steps, plane_more f (sums_of fs) (length fs) hs.0, sums_within fs hs.1)

-- With at most as many planes as a quadric can stand for.
at_most : (x n k m : ℕ) → x ≤ n * k → n ≤ MOST_FINE_PLANES → MOST_FINE_PLANES * k ≤ m → x ≤ m
at_most x n k m p q r = omega (arith, mul-le n k MOST_FINE_PLANES k q (le_refl k))

within_small : (n : ℕ) (s : Sums) → n ≤ MOST_FINE_PLANES → IsWithin n s → IsFineSmall s
within_small n s h w = grind (arith, common_steps, at_most)

pub sums_small : (fs : List Plane) → AreFinePlanes fs → length fs ≤ MOST_FINE_PLANES
    → IsFineSmall (sums_of fs)
sums_small fs hs few = within_small (length fs) (sums_of fs) few (sums_within fs hs)
