-- Where the gradient of a value is 0, it is least: at another place it is greater by a sum of
-- squares.
use Rattle.std.proofs.Common.{◌≡◌, ℕ, ◌+◌, ◌<◌, List, [], ◌∷◌, refl, sym, ap, ◌∙◌, arith}
use Rattle.std.specs.Prelude.{ℤ, pos, negsuc, ◌+ℤ◌, ◌-ℤ◌, ◌*ℤ◌, unsigned_abs}
use borrow.Author.Differences.{ints}
use Rattle.pm_base.specs.Place.{Place}
use Rattle.pm_base.specs.Geometry.{square_of}
use Rattle.pm_base.proofs.Ring.{diff-of, diff_same, add-diff, mul-diff, neg-diff, pos_is_diff}
use Rattle.pm_base.proofs.Squares.{square_is}
use Rattle.pm_quadric.specs.Planes.{Plane, plane_value, squared_value, squares_of}
use Rattle.pm_quadric.specs.Sums.{sums_of}
use Rattle.pm_quadric.proofs.Expansion.{sum_times}
use Rattle.pm_fine.specs.declared.matrix.Vector.{Vector}
use Rattle.pm_fine.specs.Fourth.{half, half_gradient}
use Rattle.pm_fine.specs.FourthLaws.{LeastWhereLevel}
use Rattle.pm_fine.proofs.NearLaws.{twice_is}

-- Half of an even number and another.
half_is : (z h : ℤ) (r : ℕ) → r < 2 → z ≡ h +ℤ h +ℤ pos r → half z ≡ h
half_is (pos n) (pos j) r l e = omega (arith, ints)
half_is (pos n) (negsuc j) r l e = absurd (omega (arith, ints))
half_is (negsuc n) (pos j) r l e = absurd (omega (arith, ints))
half_is (negsuc n) (negsuc j) r l e = omega (arith, ints)

left : ℤ → ℕ
left z = unsigned_abs (z -ℤ half z -ℤ half z)

left_is : (z : ℤ) → (left z < 2) × (z ≡ half z +ℤ half z +ℤ pos (left z))
unfolding left
left_is (pos n) = (omega (arith, ints), omega (arith, ints))
left_is (negsuc n) = (omega (arith, ints), omega (arith, ints))

half_more : (k z : ℤ) → half (pos 2 *ℤ k +ℤ z) ≡ k +ℤ half z
half_more k z =
    let l = left_is z in
    half_is (pos 2 *ℤ k +ℤ z) (k +ℤ half z) (left z) l.0 (omega (arith, ints, twice_is k, l.1))

-- The sums over the planes of a value times each number of a normal.
abbrev x_sum : List Plane → Place → ℤ
x_sum [] p = pos 0
x_sum (f ∷ fs) p = f.a *ℤ plane_value f p +ℤ x_sum fs p

abbrev y_sum : List Plane → Place → ℤ
y_sum [] p = pos 0
y_sum (f ∷ fs) p = f.b *ℤ plane_value f p +ℤ y_sum fs p

abbrev z_sum : List Plane → Place → ℤ
z_sum [] p = pos 0
z_sum (f ∷ fs) p = f.c *ℤ plane_value f p +ℤ z_sum fs p

-- One number of a normal, k, times a plane's value, and such a sum.
row_more : (k a b c d x y z r s t u : ℤ)
    → (k *ℤ a +ℤ r) *ℤ x +ℤ (k *ℤ b +ℤ s) *ℤ y +ℤ (k *ℤ c +ℤ t) *ℤ z +ℤ (k *ℤ d +ℤ u)
    ≡ k *ℤ (a *ℤ x +ℤ b *ℤ y +ℤ c *ℤ z +ℤ d) +ℤ (r *ℤ x +ℤ s *ℤ y +ℤ t *ℤ z +ℤ u)
row_more k a b c d x y z r s t u =
    rw (diff-of k, diff-of a, diff-of b, diff-of c, diff-of d, diff-of x, diff-of y, diff-of z)
    (rw (diff-of r, diff-of s, diff-of t, diff-of u)
    (simp (add-diff, mul-diff) (diff_same _ _ _ _ (omega arith))))

swapped : (a b : ℤ) → a *ℤ b ≡ b *ℤ a
swapped a b =
    rw (diff-of a, diff-of b) (simp mul-diff (diff_same _ _ _ _ (omega arith)))

x_is : (fs : List Plane) (p : Place) → (half_gradient (sums_of fs) p).x ≡ x_sum fs p
x_is [] p = omega (arith, ints)
x_is (f ∷ fs) p =
    let s = sums_of fs in
    rw (half_more (f.a *ℤ f.b) s.xy, half_more (f.a *ℤ f.c) s.xz, half_more (f.a *ℤ f.d) s.x)
    (row_more f.a f.a f.b f.c f.d p.x p.y p.z s.xx (half s.xy) (half s.xz) (half s.x)
    ∙ ap (λ (v : ℤ). f.a *ℤ plane_value f p +ℤ v) (x_is fs p))

y_is : (fs : List Plane) (p : Place) → (half_gradient (sums_of fs) p).y ≡ y_sum fs p
y_is [] p = omega (arith, ints)
y_is (f ∷ fs) p =
    let s = sums_of fs in
    rw (half_more (f.a *ℤ f.b) s.xy, half_more (f.b *ℤ f.c) s.yz, half_more (f.b *ℤ f.d) s.y)
    (rw (swapped f.a f.b)
    (row_more f.b f.a f.b f.c f.d p.x p.y p.z (half s.xy) s.yy (half s.yz) (half s.y)
    ∙ ap (λ (v : ℤ). f.b *ℤ plane_value f p +ℤ v) (y_is fs p)))

z_is : (fs : List Plane) (p : Place) → (half_gradient (sums_of fs) p).z ≡ z_sum fs p
z_is [] p = omega (arith, ints)
z_is (f ∷ fs) p =
    let s = sums_of fs in
    rw (half_more (f.a *ℤ f.c) s.xz, half_more (f.b *ℤ f.c) s.yz, half_more (f.c *ℤ f.d) s.z)
    (rw (swapped f.a f.c, swapped f.b f.c)
    (row_more f.c f.a f.b f.c f.d p.x p.y p.z (half s.xz) (half s.yz) s.zz (half s.z)
    ∙ ap (λ (v : ℤ). f.c *ℤ plane_value f p +ℤ v) (z_is fs p)))

-- How much greater the planes' values are at q than at p, squared and added up.
abbrev rise : Plane → Place → Place → ℤ
rise f p q = plane_value f q -ℤ plane_value f p

abbrev rises : List Plane → Place → Place → ℕ
rises [] p q = 0
rises (f ∷ fs) p q = square_of (unsigned_abs (rise f p q)) + rises fs p q

square_more : (v t : ℤ) → (v +ℤ t) *ℤ (v +ℤ t) ≡ v *ℤ v +ℤ (v *ℤ t +ℤ v *ℤ t) +ℤ t *ℤ t
square_more v t =
    rw (diff-of v, diff-of t) (simp (add-diff, mul-diff) (diff_same _ _ _ _ (omega arith)))

one_more : (v w t : ℤ) → w ≡ v +ℤ t
    → pos (square_of (unsigned_abs w))
    ≡ pos (square_of (unsigned_abs v)) +ℤ (v *ℤ t +ℤ v *ℤ t) +ℤ pos (square_of (unsigned_abs t))
one_more v w t e =
    sym (square_is w)
    ∙ (ap (λ (u : ℤ). u *ℤ u) e ∙ (square_more v t ∙ rw (square_is v, square_is t) refl))

-- A plane's rise by the way from p to q.
rise_times : (v a b c d x y z r s t : ℤ)
    → v *ℤ ((a *ℤ r +ℤ b *ℤ s +ℤ c *ℤ t +ℤ d) -ℤ (a *ℤ x +ℤ b *ℤ y +ℤ c *ℤ z +ℤ d))
    ≡ a *ℤ v *ℤ (r -ℤ x) +ℤ b *ℤ v *ℤ (s -ℤ y) +ℤ c *ℤ v *ℤ (t -ℤ z)
rise_times v a b c d x y z r s t =
    rw (diff-of v, diff-of a, diff-of b, diff-of c, diff-of d, diff-of x, diff-of y, diff-of z)
    (rw (diff-of r, diff-of s, diff-of t)
    (simp (add-diff, neg-diff, mul-diff) (diff_same _ _ _ _ (omega arith))))

none : (m : ℤ) → pos 0 *ℤ m ≡ pos 0
none m = rw (diff-of m, pos_is_diff 0) (simp mul-diff (diff_same _ _ _ _ (omega arith)))

-- A plane's terms and those of a list, each as one number.
both : (a b c d e f g : ℤ) (i j k l m n : ℕ) → g ≡ a +ℤ b +ℤ c → pos i ≡ pos j +ℤ (g +ℤ g) +ℤ pos k
    → pos l ≡ pos m +ℤ ((d +ℤ e +ℤ f) +ℤ (d +ℤ e +ℤ f)) +ℤ pos n
    → pos (i + l)
    ≡ pos (j + m) +ℤ ((a +ℤ d +ℤ (b +ℤ e) +ℤ (c +ℤ f)) +ℤ (a +ℤ d +ℤ (b +ℤ e) +ℤ (c +ℤ f)))
    +ℤ pos (k + n)
both a b c d e f g i j k l m n p q r = omega (arith, ints)

-- Half of what a value changes by at first.
first_part : List Plane → Place → Place → ℤ
first_part fs p q =
    x_sum fs p *ℤ (q.x -ℤ p.x) +ℤ y_sum fs p *ℤ (q.y -ℤ p.y) +ℤ z_sum fs p *ℤ (q.z -ℤ p.z)

expanded : (fs : List Plane) (p q : Place)
    → pos (squares_of fs q)
    ≡ pos (squares_of fs p) +ℤ (first_part fs p q +ℤ first_part fs p q) +ℤ pos (rises fs p q)
unfolding first_part
expanded [] p q =
    rw (none (q.x -ℤ p.x), none (q.y -ℤ p.y), none (q.z -ℤ p.z)) refl
expanded (f ∷ fs) p q =
    let v = plane_value f p in
    let t = rise f p q in
    let e : plane_value f q ≡ v +ℤ t = omega (arith, ints) in
    let x = q.x -ℤ p.x in
    let y = q.y -ℤ p.y in
    let z = q.z -ℤ p.z in
    rw (
      sum_times (f.a *ℤ v) (x_sum fs p) x,
      sum_times (f.b *ℤ v) (y_sum fs p) y,
      sum_times (f.c *ℤ v) (z_sum fs p) z,
    )
    (both (f.a *ℤ v *ℤ x) (f.b *ℤ v *ℤ y) (f.c *ℤ v *ℤ z) (x_sum fs p *ℤ x) (y_sum fs p *ℤ y)
    (z_sum fs p *ℤ z) (v *ℤ t) (squared_value f q) (squared_value f p)
    (square_of (unsigned_abs t)) (squares_of fs q) (squares_of fs p) (rises fs p q)
    (rise_times v f.a f.b f.c f.d p.x p.y p.z q.x q.y q.z) (one_more v (plane_value f q) t e)
    (expanded fs p q))

level_is : (fs : List Plane) (p q : Place) → x_sum fs p ≡ pos 0 → y_sum fs p ≡ pos 0
    → z_sum fs p ≡ pos 0 → first_part fs p q ≡ pos 0
unfolding first_part
level_is fs p q x y z =
    rw (x, y, z) (rw (none (q.x -ℤ p.x), none (q.y -ℤ p.y), none (q.z -ℤ p.z)) refl)

pub least_where_level : LeastWhereLevel
least_where_level fs p q h =
    let x : x_sum fs p ≡ pos 0 = sym (x_is fs p) ∙ ap (λ (v : Vector). v.x) h in
    let y : y_sum fs p ≡ pos 0 = sym (y_is fs p) ∙ ap (λ (v : Vector). v.y) h in
    let z : z_sum fs p ≡ pos 0 = sym (z_is fs p) ∙ ap (λ (v : Vector). v.z) h in
    let level : first_part fs p q ≡ pos 0 = level_is fs p q x y z in
    let e = rw level at (expanded fs p q) in
    omega (arith, ints, e)
