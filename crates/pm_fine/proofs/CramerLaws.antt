-- Cramer's rule: the cofactors of a symmetric matrix times A u are the determinant times u.
use Rattle.std.proofs.Common.{◌≡◌, refl, ◌∙◌, arith}
use Rattle.std.specs.Prelude.{ℤ, pos, ◌+ℤ◌, ◌-ℤ◌, ◌*ℤ◌}
use Rattle.pm_base.proofs.Ring.{diff-of, diff_same, add-diff, mul-diff, neg-diff, pos_is_diff}
use Rattle.pm_fine.specs.declared.matrix.Matrix.{Matrix}
use Rattle.pm_fine.specs.declared.matrix.Vector.{Vector}
use Rattle.pm_fine.specs.Fourth.{times_of, cofactors_of, determinant_of}
use Rattle.pm_fine.specs.FourthLaws.{CofactorsSolve}

-- A row of cofactors k, l, m times A u.
regrouped : (k l m a b c d e f x y z : ℤ)
    → k *ℤ (a *ℤ x +ℤ b *ℤ y +ℤ c *ℤ z) +ℤ l *ℤ (b *ℤ x +ℤ d *ℤ y +ℤ e *ℤ z)
    +ℤ m *ℤ (c *ℤ x +ℤ e *ℤ y +ℤ f *ℤ z)
    ≡ (a *ℤ k +ℤ b *ℤ l +ℤ c *ℤ m) *ℤ x +ℤ (b *ℤ k +ℤ d *ℤ l +ℤ e *ℤ m) *ℤ y
    +ℤ (c *ℤ k +ℤ e *ℤ l +ℤ f *ℤ m) *ℤ z
regrouped k l m a b c d e f x y z =
    rw (diff-of k, diff-of l, diff-of m, diff-of a, diff-of b, diff-of c, diff-of d, diff-of e)
    (rw (diff-of f, diff-of x, diff-of y, diff-of z)
    (simp (add-diff, mul-diff) (diff_same _ _ _ _ (omega arith))))

-- The product of a row and the cofactors of another is 0, and that of a row and its own is the
-- determinant.
apart_1 : (b c d e f : ℤ)
    → b *ℤ (d *ℤ f -ℤ e *ℤ e) +ℤ d *ℤ (c *ℤ e -ℤ b *ℤ f) +ℤ e *ℤ (b *ℤ e -ℤ c *ℤ d) ≡ pos 0
apart_1 b c d e f =
    rw (diff-of b, diff-of c, diff-of d, diff-of e, diff-of f, pos_is_diff 0)
    (simp (add-diff, neg-diff, mul-diff) (diff_same _ _ _ _ (omega arith)))

apart_2 : (b c d e f : ℤ)
    → c *ℤ (d *ℤ f -ℤ e *ℤ e) +ℤ e *ℤ (c *ℤ e -ℤ b *ℤ f) +ℤ f *ℤ (b *ℤ e -ℤ c *ℤ d) ≡ pos 0
apart_2 b c d e f =
    rw (diff-of b, diff-of c, diff-of d, diff-of e, diff-of f, pos_is_diff 0)
    (simp (add-diff, neg-diff, mul-diff) (diff_same _ _ _ _ (omega arith)))

apart_3 : (a b c e f : ℤ)
    → a *ℤ (c *ℤ e -ℤ b *ℤ f) +ℤ b *ℤ (a *ℤ f -ℤ c *ℤ c) +ℤ c *ℤ (b *ℤ c -ℤ a *ℤ e) ≡ pos 0
apart_3 a b c e f =
    rw (diff-of a, diff-of b, diff-of c, diff-of e, diff-of f, pos_is_diff 0)
    (simp (add-diff, neg-diff, mul-diff) (diff_same _ _ _ _ (omega arith)))

apart_4 : (a b c e f : ℤ)
    → c *ℤ (c *ℤ e -ℤ b *ℤ f) +ℤ e *ℤ (a *ℤ f -ℤ c *ℤ c) +ℤ f *ℤ (b *ℤ c -ℤ a *ℤ e) ≡ pos 0
apart_4 a b c e f =
    rw (diff-of a, diff-of b, diff-of c, diff-of e, diff-of f, pos_is_diff 0)
    (simp (add-diff, neg-diff, mul-diff) (diff_same _ _ _ _ (omega arith)))

apart_5 : (a b c d e : ℤ)
    → a *ℤ (b *ℤ e -ℤ c *ℤ d) +ℤ b *ℤ (b *ℤ c -ℤ a *ℤ e) +ℤ c *ℤ (a *ℤ d -ℤ b *ℤ b) ≡ pos 0
apart_5 a b c d e =
    rw (diff-of a, diff-of b, diff-of c, diff-of d, diff-of e, pos_is_diff 0)
    (simp (add-diff, neg-diff, mul-diff) (diff_same _ _ _ _ (omega arith)))

apart_6 : (a b c d e : ℤ)
    → b *ℤ (b *ℤ e -ℤ c *ℤ d) +ℤ d *ℤ (b *ℤ c -ℤ a *ℤ e) +ℤ e *ℤ (a *ℤ d -ℤ b *ℤ b) ≡ pos 0
apart_6 a b c d e =
    rw (diff-of a, diff-of b, diff-of c, diff-of d, diff-of e, pos_is_diff 0)
    (simp (add-diff, neg-diff, mul-diff) (diff_same _ _ _ _ (omega arith)))

second : (a b c d e f : ℤ)
    → b *ℤ (c *ℤ e -ℤ b *ℤ f) +ℤ d *ℤ (a *ℤ f -ℤ c *ℤ c) +ℤ e *ℤ (b *ℤ c -ℤ a *ℤ e)
    ≡ a *ℤ (d *ℤ f -ℤ e *ℤ e) +ℤ b *ℤ (c *ℤ e -ℤ b *ℤ f) +ℤ c *ℤ (b *ℤ e -ℤ c *ℤ d)
second a b c d e f =
    rw (diff-of a, diff-of b, diff-of c, diff-of d, diff-of e, diff-of f)
    (simp (add-diff, neg-diff, mul-diff) (diff_same _ _ _ _ (omega arith)))

third : (a b c d e f : ℤ)
    → c *ℤ (b *ℤ e -ℤ c *ℤ d) +ℤ e *ℤ (b *ℤ c -ℤ a *ℤ e) +ℤ f *ℤ (a *ℤ d -ℤ b *ℤ b)
    ≡ a *ℤ (d *ℤ f -ℤ e *ℤ e) +ℤ b *ℤ (c *ℤ e -ℤ b *ℤ f) +ℤ c *ℤ (b *ℤ e -ℤ c *ℤ d)
third a b c d e f =
    rw (diff-of a, diff-of b, diff-of c, diff-of d, diff-of e, diff-of f)
    (simp (add-diff, neg-diff, mul-diff) (diff_same _ _ _ _ (omega arith)))

-- The one term that is left.
only_x : (p x y z : ℤ) → p *ℤ x +ℤ pos 0 *ℤ y +ℤ pos 0 *ℤ z ≡ p *ℤ x
only_x p x y z =
    rw (diff-of p, diff-of x, diff-of y, diff-of z, pos_is_diff 0)
    (simp (add-diff, mul-diff) (diff_same _ _ _ _ (omega arith)))

only_y : (p x y z : ℤ) → pos 0 *ℤ x +ℤ p *ℤ y +ℤ pos 0 *ℤ z ≡ p *ℤ y
only_y p x y z =
    rw (diff-of p, diff-of x, diff-of y, diff-of z, pos_is_diff 0)
    (simp (add-diff, mul-diff) (diff_same _ _ _ _ (omega arith)))

only_z : (p x y z : ℤ) → pos 0 *ℤ x +ℤ pos 0 *ℤ y +ℤ p *ℤ z ≡ p *ℤ z
only_z p x y z =
    rw (diff-of p, diff-of x, diff-of y, diff-of z, pos_is_diff 0)
    (simp (add-diff, mul-diff) (diff_same _ _ _ _ (omega arith)))

abbrev solved : Matrix → Vector → Vector
solved a u = times_of (cofactors_of a) (times_of a u)

x_is : (a : Matrix) (u : Vector) → (solved a u).x ≡ determinant_of a *ℤ u.x
x_is a u =
    let c : Matrix = cofactors_of a in
    let one = apart_1 a.xy a.xz a.yy a.yz a.zz in
    let other = apart_2 a.xy a.xz a.yy a.yz a.zz in
    regrouped c.xx c.xy c.xz a.xx a.xy a.xz a.yy a.yz a.zz u.x u.y u.z
    ∙ (rw (one, other) (only_x (determinant_of a) u.x u.y u.z))

y_is : (a : Matrix) (u : Vector) → (solved a u).y ≡ determinant_of a *ℤ u.y
y_is a u =
    let c : Matrix = cofactors_of a in
    let one = apart_3 a.xx a.xy a.xz a.yz a.zz in
    let other = apart_4 a.xx a.xy a.xz a.yz a.zz in
    let own = second a.xx a.xy a.xz a.yy a.yz a.zz in
    regrouped c.xy c.yy c.yz a.xx a.xy a.xz a.yy a.yz a.zz u.x u.y u.z
    ∙ (rw (one, other, own) (only_y (determinant_of a) u.x u.y u.z))

z_is : (a : Matrix) (u : Vector) → (solved a u).z ≡ determinant_of a *ℤ u.z
z_is a u =
    let c : Matrix = cofactors_of a in
    let one = apart_5 a.xx a.xy a.xz a.yy a.yz in
    let other = apart_6 a.xx a.xy a.xz a.yy a.yz in
    let own = third a.xx a.xy a.xz a.yy a.yz a.zz in
    regrouped c.xz c.yz c.zz a.xx a.xy a.xz a.yy a.yz a.zz u.x u.y u.z
    ∙ (rw (one, other, own) (only_z (determinant_of a) u.x u.y u.z))

pub cofactors_solve : CofactorsSolve
cofactors_solve a u = rw (x_is a u, y_is a u, z_is a u) refl
