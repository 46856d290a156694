-- The eleven numbers of a new quadric, read back from their bits.
use Rattle.std.proofs.Common.{◌≡◌, ◌+◌, ◌^◌, ◌≤◌, w64, FitsSigned, to_z, of_z, refl, ◌∙◌, ap}
use Rattle.std.proofs.Common.{lit≤, lit<}
use mir.Syntax.{w128}
use Rattle.std.specs.Prelude.{ℤ, pos, ◌+ℤ◌, ◌*ℤ◌, neg_ℤ, unsigned_abs}
use Rattle.std.proofs.lemmas.Int.{to_z-of_z}
use Rattle.pm_base.specs.Place.{Place}
use Rattle.pm_base.specs.Geometry.{Direction}
use Rattle.pm_base.proofs.Range.{abs_product}
use Rattle.pm_base.proofs.ReadBack.{fits_small}
use Rattle.pm_quadric.specs.Planes.{Plane, plane_through}
use Rattle.pm_quadric.specs.Sums.{Sums, plus_sums, coefficients}
use Rattle.pm_quadric.specs.Quadrics.{IsSmall}
use Rattle.pm_quadric.proofs.Words.{sum_read, sum_is}

-- Two quadrics together.
abbrev pub sums_read : Sums → Sums → Sums
sums_read s t = record {
  xx = sum_read s.xx t.xx;
  xy = sum_read s.xy t.xy;
  xz = sum_read s.xz t.xz;
  x = sum_read s.x t.x;
  yy = sum_read s.yy t.yy;
  yz = sum_read s.yz t.yz;
  y = sum_read s.y t.y;
  zz = sum_read s.zz t.zz;
  z = sum_read s.z t.z;
  one = sum_read s.one t.one;
  count =
      s.count + t.count;
}

sums_read-plus : (s t : Sums) → IsSmall s → IsSmall t → sums_read s t ≡ plus_sums s t
sums_read-plus s t h k =
    rw (
      sum_is s.xx t.xx (2 ^ 89) h.xx k.xx (lit≤ tt),
      sum_is s.xy t.xy (2 ^ 89) h.xy k.xy (lit≤ tt),
      sum_is s.xz t.xz (2 ^ 89) h.xz k.xz (lit≤ tt),
      sum_is s.x t.x (2 ^ 106) h.x k.x (lit≤ tt),
      sum_is s.yy t.yy (2 ^ 89) h.yy k.yy (lit≤ tt),
      sum_is s.yz t.yz (2 ^ 89) h.yz k.yz (lit≤ tt),
      sum_is s.y t.y (2 ^ 106) h.y k.y (lit≤ tt),
      sum_is s.zz t.zz (2 ^ 89) h.zz k.zz (lit≤ tt),
      sum_is s.z t.z (2 ^ 106) h.z k.z (lit≤ tt),
      sum_is s.one t.one (2 ^ 122) h.one k.one (lit≤ tt),
    ) refl

pub sums_read-is : (s t u v : Sums) → IsSmall s → IsSmall t → s ≡ u → t ≡ v
    → sums_read s t ≡ plus_sums u v
sums_read-is s t u v h k p q =
    sums_read-plus s t h k
    ∙ (ap (λ (r : Sums). plus_sums r t) p ∙ ap (λ (r : Sums). plus_sums u r) q)

-- The plane of a face: the last number, a product of two numbers, and the ten.
pub offset_is : (r x y z : ℤ) (n : Direction) (p : Place)
    → r ≡ neg_ℤ (x *ℤ p.x +ℤ y *ℤ p.y +ℤ z *ℤ p.z) → x ≡ n.x → y ≡ n.y → z ≡ n.z
    → r ≡ (plane_through n p).d
offset_is r x y z n p e ex ey ez = e ∙ rw (ex, ey, ez) refl

pub twice_fits : (a b : ℤ) → unsigned_abs a ≤ 2 ^ 50 → unsigned_abs b ≤ 2 ^ 50
    → FitsSigned w128 (pos 2 *ℤ (a *ℤ b))
twice_fits a b p q =
    let h = abs_product a b (2 ^ 50) (2 ^ 50) p q in
    fits_small w128 (pos 2 *ℤ (a *ℤ b)) (2 ^ 101)
    (abs_product (pos 2) (a *ℤ b) 2 (2 ^ 100) (lit≤ tt) h) (lit< tt)

pub pair_is : (r a b a' b' : ℤ) → FitsSigned w128 r
    → r ≡ to_z w64 (of_z w64 a) *ℤ to_z w64 (of_z w64 b) → FitsSigned w64 a → FitsSigned w64 b
    → a ≡ a' → b ≡ b' → to_z w128 (of_z w128 r) ≡ a' *ℤ b'
pair_is r a b a' b' fr e fa fb ea eb = to_z-of_z w128 r fr ∙ (e ∙ simp to_z-of_z (rw (ea, eb) refl))

pub double_is : (r a b a' b' : ℤ) → FitsSigned w128 r
    → r ≡ pos 2 *ℤ (to_z w64 (of_z w64 a) *ℤ to_z w64 (of_z w64 b)) → FitsSigned w64 a
    → FitsSigned w64 b → a ≡ a' → b ≡ b' → to_z w128 (of_z w128 r) ≡ pos 2 *ℤ (a' *ℤ b')
double_is r a b a' b' fr e fa fb ea eb =
    to_z-of_z w128 r fr ∙ (e ∙ simp to_z-of_z (rw (ea, eb) refl))

pub coefficients_are : (f : Plane) (r1 r2 r3 r4 r5 r6 r7 r8 r9 r10 : ℤ)
    → r1 ≡ f.a *ℤ f.a
    → r2 ≡ pos 2 *ℤ (f.a *ℤ f.b)
    → r3 ≡ pos 2 *ℤ (f.a *ℤ f.c)
    → r4 ≡ pos 2 *ℤ (f.a *ℤ f.d)
    → r5 ≡ f.b *ℤ f.b
    → r6 ≡ pos 2 *ℤ (f.b *ℤ f.c)
    → r7 ≡ pos 2 *ℤ (f.b *ℤ f.d)
    → r8 ≡ f.c *ℤ f.c
    → r9 ≡ pos 2 *ℤ (f.c *ℤ f.d)
    → r10 ≡ f.d *ℤ f.d
    → (let s : Sums = record {
      xx = r1;
      xy = r2;
      xz = r3;
      x = r4;
      yy = r5;
      yz = r6;
      y = r7;
      zz = r8;
      z = r9;
      one = r10;
      count = 1;
    } in s) ≡ coefficients f
coefficients_are f r1 r2 r3 r4 r5 r6 r7 r8 r9 r10 e1 e2 e3 e4 e5 e6 e7 e8 e9 e10 =
    rw (e1, e2, e3, e4, e5, e6, e7, e8, e9, e10) refl
