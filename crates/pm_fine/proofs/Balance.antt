-- The mixed sums of a list of planes are no greater than those of squares: twice a product is at
-- most the sum of both squares.
use Rattle.std.proofs.Common.{◌≡◌, ◌+◌, ◌*◌, ◌≤◌, List, [], ◌∷◌, arith}
use Rattle.std.proofs.lemmas.Grind.{common_steps}
use Rattle.std.specs.Prelude.{ℤ, pos, ◌+ℤ◌, ◌*ℤ◌, unsigned_abs}
use Rattle.std.proofs.lemmas.Int.{unsigned_abs-mul}
use borrow.Author.Differences.{ints}
use Rattle.pm_base.proofs.Squares.{abs_plus, square_is, two_products}
use Rattle.pm_quadric.specs.Planes.{Plane}
use Rattle.pm_quadric.specs.Sums.{Sums, plus_sums, coefficients, sums_of}

pub record IsBalanced (s : Sums) : Type 0 where
  pub xx : s.xx ≡ pos (unsigned_abs s.xx)
  pub yy : s.yy ≡ pos (unsigned_abs s.yy)
  pub zz : s.zz ≡ pos (unsigned_abs s.zz)
  pub xy : unsigned_abs s.xy ≤ unsigned_abs s.xx + unsigned_abs s.yy
  pub xz : unsigned_abs s.xz ≤ unsigned_abs s.xx + unsigned_abs s.zz
  pub yz : unsigned_abs s.yz ≤ unsigned_abs s.yy + unsigned_abs s.zz

square_more : (a x : ℤ) → x ≡ pos (unsigned_abs x)
    → unsigned_abs (a *ℤ a +ℤ x) ≡ unsigned_abs a * unsigned_abs a + unsigned_abs x
square_more a x h = rw (square_is a) (omega (arith, ints))

not_below : (a x : ℤ) → x ≡ pos (unsigned_abs x) → a *ℤ a +ℤ x ≡ pos (unsigned_abs (a *ℤ a +ℤ x))
not_below a x h = rw (square_is a) (omega (arith, ints))

mixed_more : (a b x y z : ℤ) → x ≡ pos (unsigned_abs x) → y ≡ pos (unsigned_abs y)
    → unsigned_abs z ≤ unsigned_abs x + unsigned_abs y
    → unsigned_abs (pos 2 *ℤ (a *ℤ b) +ℤ z)
    ≤ unsigned_abs (a *ℤ a +ℤ x) + unsigned_abs (b *ℤ b +ℤ y)
mixed_more a b x y z p q h =
    omega (
      arith,
      abs_plus (pos 2 *ℤ (a *ℤ b)) z,
      unsigned_abs-mul (pos 2) (a *ℤ b),
      unsigned_abs-mul a b,
      two_products (unsigned_abs a) (unsigned_abs b),
      square_more a x p,
      square_more b y q,
    )

more : (f : Plane) (s : Sums) → IsBalanced s → IsBalanced (plus_sums (coefficients f) s)
more f s h = record {
  xx = not_below f.a s.xx h.xx;
  yy = not_below f.b s.yy h.yy;
  zz = not_below f.c s.zz h.zz;
  xy = mixed_more f.a f.b s.xx s.yy s.xy h.xx h.yy h.xy;
  xz = mixed_more f.a f.c s.xx s.zz s.xz h.xx h.zz h.xz;
  yz = mixed_more f.b f.c s.yy s.zz s.yz h.yy h.zz h.yz;
}

pub balanced : (fs : List Plane) → IsBalanced (sums_of fs)
balanced [] = grind (arith, common_steps)
balanced (f ∷ fs) = more f (sums_of fs) (balanced fs)
