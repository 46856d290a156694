-- Cross products: their lengths, and what a box of directions tells of them.
use Rattle.std.proofs.Common.{◌≡◌, ℕ, ◌+◌, ◌*◌, ◌≤◌, sym, subst, ◌∙◌, ap, inl, inr, refl, arith}
use Rattle.std.proofs.Math.Nat.{le_refl, le_trans, le_of_lt, le_of_mul-le-mul_left}
use Rattle.std.specs.Prelude.{ℤ, pos, neg_ℤ, ◌+ℤ◌, ◌-ℤ◌, ◌*ℤ◌, unsigned_abs}
use Rattle.std.proofs.lemmas.Nat.{mul-le}
use Rattle.std.proofs.lemmas.Bool.{cases_lt}
use Rattle.std.proofs.lemmas.Int.{unsigned_abs-mul}
use borrow.Author.Differences.{ints}
use Rattle.pm_base.specs.Place.{Place}
use Rattle.pm_base.specs.Geometry.{Direction, dot_of, norm2_of, plus_of, square_of}
use Rattle.pm_base.specs.Rounded.{root_up}
use Rattle.pm_base.proofs.Lengths.{lengths_le}
use Rattle.pm_base.proofs.Root.{root_up_is}
use Rattle.pm_base.proofs.Squares.{square_is}
use Rattle.pm_base.proofs.Ring.{diff-of, diff_same, add-diff, mul-diff, neg-diff, pos_is_diff}
use Rattle.pm_deviation.specs.declared.spread.Spread.{Spread}
use Rattle.pm_deviation.specs.declared.unit_box.UnitBox.{UnitBox}
use Rattle.pm_deviation.specs.Spreads.{along, most_of}
use Rattle.pm_deviation.specs.Lines.{way}
use Rattle.pm_deviation.specs.Deviations.{about_x, about_y, about_z, across}
use Rattle.pm_deviation.proofs.PartLaws.{ceil_enough}
use Rattle.pm_deviation.proofs.PlaneValues.{abs_up, abs_down}
use Rattle.pm_deviation.proofs.Products.{IsScaledIn, IsScaledInBox, scaled_along}

-- u x m
abbrev pub times_of : Direction → Direction → Direction
times_of u m = record {
  x = u.y *ℤ m.z -ℤ u.z *ℤ m.y;
  y = u.z *ℤ m.x -ℤ u.x *ℤ m.z;
  z = u.x *ℤ m.y -ℤ u.y *ℤ m.x;
}

-- its numbers as products with u

number_x : (a b c x y z : ℤ) → a *ℤ pos 0 +ℤ b *ℤ neg_ℤ z +ℤ c *ℤ y ≡ neg_ℤ (b *ℤ z -ℤ c *ℤ y)
number_x a b c x y z =
    rw (diff-of a, diff-of b, diff-of c, diff-of y, diff-of z, pos_is_diff 0)
    (simp (add-diff, neg-diff, mul-diff) (diff_same _ _ _ _ (omega arith)))

number_y : (a b c x y z : ℤ) → a *ℤ z +ℤ b *ℤ pos 0 +ℤ c *ℤ neg_ℤ x ≡ neg_ℤ (c *ℤ x -ℤ a *ℤ z)
number_y a b c x y z =
    rw (diff-of a, diff-of b, diff-of c, diff-of x, diff-of z, pos_is_diff 0)
    (simp (add-diff, neg-diff, mul-diff) (diff_same _ _ _ _ (omega arith)))

number_z : (a b c x y z : ℤ) → a *ℤ neg_ℤ y +ℤ b *ℤ x +ℤ c *ℤ pos 0 ≡ neg_ℤ (a *ℤ y -ℤ b *ℤ x)
number_z a b c x y z =
    rw (diff-of a, diff-of b, diff-of c, diff-of x, diff-of y, pos_is_diff 0)
    (simp (add-diff, neg-diff, mul-diff) (diff_same _ _ _ _ (omega arith)))

abs_neg : (z : ℤ) → unsigned_abs (neg_ℤ z) ≡ unsigned_abs z
abs_neg z = omega (arith, ints)

abs_x : (u m : Direction) → unsigned_abs (dot_of u (about_x m)) ≡ unsigned_abs (times_of u m).x
abs_x u m = ap unsigned_abs (number_x u.x u.y u.z m.x m.y m.z) ∙ abs_neg (times_of u m).x

abs_y : (u m : Direction) → unsigned_abs (dot_of u (about_y m)) ≡ unsigned_abs (times_of u m).y
abs_y u m = ap unsigned_abs (number_y u.x u.y u.z m.x m.y m.z) ∙ abs_neg (times_of u m).y

abs_z : (u m : Direction) → unsigned_abs (dot_of u (about_z m)) ≡ unsigned_abs (times_of u m).z
abs_z u m = ap unsigned_abs (number_z u.x u.y u.z m.x m.y m.z) ∙ abs_neg (times_of u m).z

-- Its length is at most the product of the two lengths (Lagrange): the squares of the cross product
-- and of the product add up to it.

lagrange : (a b c x y z : ℤ) →
    ((b *ℤ z -ℤ c *ℤ y) *ℤ (b *ℤ z -ℤ c *ℤ y) +ℤ (c *ℤ x -ℤ a *ℤ z) *ℤ (c *ℤ x -ℤ a *ℤ z)
    +ℤ (a *ℤ y -ℤ b *ℤ x) *ℤ (a *ℤ y -ℤ b *ℤ x))
    +ℤ (a *ℤ x +ℤ b *ℤ y +ℤ c *ℤ z) *ℤ (a *ℤ x +ℤ b *ℤ y +ℤ c *ℤ z)
    ≡ (a *ℤ a +ℤ b *ℤ b +ℤ c *ℤ c) *ℤ (x *ℤ x +ℤ y *ℤ y +ℤ z *ℤ z)
lagrange a b c x y z =
    rw (diff-of a, diff-of b, diff-of c, diff-of x, diff-of y, diff-of z)
    (simp (add-diff, neg-diff, mul-diff) (diff_same _ _ _ _ (omega arith)))

squares : (u : Direction) → u.x *ℤ u.x +ℤ u.y *ℤ u.y +ℤ u.z *ℤ u.z ≡ pos (norm2_of u)
squares u = rw (square_is u.x, square_is u.y, square_is u.z) (omega (arith, ints))

parted : (c d m n : ℕ) → pos c +ℤ pos d ≡ pos m *ℤ pos n → c ≤ m * n
parted c d m n e = omega (arith, ints)

summed : (C D M N : ℤ) (c d m n : ℕ) → C ≡ pos c → D ≡ pos d → M ≡ pos m → N ≡ pos n
    → C +ℤ D ≡ M *ℤ N → c ≤ m * n
summed C D M N c d m n p q r s e =
    parted c d m n
    (ap (λ (z : ℤ). z +ℤ pos d) (sym p) ∙ ap (λ (z : ℤ). C +ℤ z) (sym q) ∙ e
    ∙ ap (λ (z : ℤ). z *ℤ N) r ∙ ap (λ (z : ℤ). pos m *ℤ z) s)

pub times_le : (u m : Direction) → norm2_of (times_of u m) ≤ norm2_of u * norm2_of m
times_le u m =
    let c = times_of u m in
    let d = dot_of u m in
    summed (c.x *ℤ c.x +ℤ c.y *ℤ c.y +ℤ c.z *ℤ c.z) (d *ℤ d)
    (u.x *ℤ u.x +ℤ u.y *ℤ u.y +ℤ u.z *ℤ u.z) (m.x *ℤ m.x +ℤ m.y *ℤ m.y +ℤ m.z *ℤ m.z)
    (norm2_of c) (square_of (unsigned_abs d)) (norm2_of u) (norm2_of m) (squares c) (square_is d)
    (squares u) (squares m) (lagrange u.x u.y u.z m.x m.y m.z)

-- A place's cross product with a side after a move is that before and that with the move.

moved_one : (a b p q r s x y : ℤ) → a *ℤ (s -ℤ y) -ℤ b *ℤ (r -ℤ x)
    ≡ (a *ℤ (q -ℤ y) -ℤ b *ℤ (p -ℤ x)) +ℤ (a *ℤ (s -ℤ q) -ℤ b *ℤ (r -ℤ p))
moved_one a b p q r s x y =
    rw (diff-of a, diff-of b, diff-of p, diff-of q, diff-of r, diff-of s, diff-of x, diff-of y)
    (simp (add-diff, neg-diff, mul-diff) (diff_same _ _ _ _ (omega arith)))

pub times_after : (u : Direction) (a p q : Place)
    → times_of u (way q a) ≡ plus_of (times_of u (way p a)) (times_of u (way q p))
times_after u a p q =
    rw (
      moved_one u.y u.z p.y p.z q.y q.z a.y a.z,
      moved_one u.z u.x p.z p.x q.z q.x a.z a.x,
      moved_one u.x u.y p.x p.y q.x q.y a.x a.y,
    ) refl

pub moved_within : (u : Direction) (a p q : Place) (d e : ℕ)
    → norm2_of (times_of u (way p a)) ≤ square_of d * norm2_of u
    → norm2_of (times_of u (way q p)) ≤ square_of e * norm2_of u
    → norm2_of (times_of u (way q a)) ≤ square_of (d + e) * norm2_of u
moved_within u a p q d e h k =
    subst (λ (w : Direction). norm2_of w ≤ square_of (d + e) * norm2_of u)
    (sym (times_after u a p q))
    (lengths_le (times_of u (way p a)) (times_of u (way q p)) d e (norm2_of u) h k)

-- by the way
pub times_way : (u m : Direction) (e : ℕ) → norm2_of m ≤ e * e
    → norm2_of (times_of u m) ≤ square_of e * norm2_of u
times_way u m e h =
    omega (arith, times_le u m, mul-le (norm2_of u) (norm2_of m) (norm2_of u) (e * e) (le_refl _) h)

-- by the box

by_end : (l k v t m : ℕ) → k ≡ v → 16384 * v ≤ l * t → t ≤ m → 16384 * k ≤ l * m
by_end l k v t m is p q = omega (arith, is, p, mul-le l t l m (le_refl l) q)

held_most : (l k : ℕ) (s : Spread) (v : ℤ) → IsScaledIn v l s → k ≡ unsigned_abs v
    → 16384 * k ≤ l * most_of s
held_most l k s v i is =
    let least = unsigned_abs-mul (pos l) s.low in
    let greatest = unsigned_abs-mul (pos l) s.high in
    let own = unsigned_abs-mul (pos 16384) v in
    elim (cases_lt (unsigned_abs (pos l *ℤ s.low)) (unsigned_abs (pos l *ℤ s.high))) [
      | inl up ↦
          (let most =
          abs_up (pos l *ℤ s.low) (pos 16384 *ℤ v) (pos l *ℤ s.high) i.low i.high (le_of_lt up) in
          by_end l k (unsigned_abs v) (unsigned_abs s.high) (most_of s) is (omega arith)
          (omega arith))
      | inr down ↦
          (let most =
          abs_down (pos l *ℤ s.low) (pos 16384 *ℤ v) (pos l *ℤ s.high) i.low i.high down in
          by_end l k (unsigned_abs v) (unsigned_abs s.low) (most_of s) is (omega arith)
          (omega arith))
    ]

square_part : (k l m : ℕ) → 16384 * k ≤ l * m → 268435456 * (k * k) ≤ l * l * (m * m)
square_part k l m h = omega (arith, mul-le (16384 * k) (16384 * k) (l * m) (l * m) h h)

three_parts : (x y z a b c l : ℕ) → 16384 * x ≤ l * a → 16384 * y ≤ l * b → 16384 * z ≤ l * c
    → 268435456 * (x * x + y * y + z * z) ≤ l * l * (a * a + b * b + c * c)
three_parts x y z a b c l p q r =
    omega (arith, square_part x l a p, square_part y l b q, square_part z l c r)

bounded : (n s l r e q : ℕ) → 268435456 * n ≤ l * l * s → l * l ≤ q → s ≤ r * r → r ≤ e * 16384
    → n ≤ e * e * q
bounded n s l r e q p far root ceil =
    le_of_mul-le-mul_left {m = n} {n = e * e * q} {k = 268435456}
    (le_trans p
    (le_trans (mul-le (l * l) s q (r * r) far root)
    (omega (
      arith,
      mul-le q (r * r) q ((e * 16384) * (e * 16384)) (le_refl q)
          (mul-le r r (e * 16384) (e * 16384) ceil ceil),
    ))))
    (omega arith)

pub times_box : (u m : Direction) (l : ℕ) (b : UnitBox) → IsScaledInBox u l b
    → l * l ≤ norm2_of u → norm2_of (times_of u m) ≤ square_of (across b m) * norm2_of u
times_box u m l b i far =
    let x = most_of (along b (about_x m)) in
    let y = most_of (along b (about_y m)) in
    let z = most_of (along b (about_z m)) in
    let s = square_of x + square_of y + square_of z in
    let c = times_of u m in
    bounded (norm2_of c) s l (root_up s) (across b m) (norm2_of u)
    (three_parts (unsigned_abs c.x) (unsigned_abs c.y) (unsigned_abs c.z) x y z l
    (held_most l (unsigned_abs c.x) (along b (about_x m)) (dot_of u (about_x m))
    (scaled_along u (about_x m) l b i) (sym (abs_x u m)))
    (held_most l (unsigned_abs c.y) (along b (about_y m)) (dot_of u (about_y m))
    (scaled_along u (about_y m) l b i) (sym (abs_y u m)))
    (held_most l (unsigned_abs c.z) (along b (about_z m)) (dot_of u (about_z m))
    (scaled_along u (about_z m) l b i) (sym (abs_z u m)))) far (root_up_is s).enough
    (ceil_enough (root_up s) 16384 (omega arith))

-- At both ends of a side the cross product is 0.

none_one : (a b x y : ℤ) → a *ℤ (y -ℤ y) -ℤ b *ℤ (x -ℤ x) ≡ pos 0
none_one a b x y =
    rw (diff-of a, diff-of b, diff-of x, diff-of y, pos_is_diff 0)
    (simp (add-diff, neg-diff, mul-diff) (diff_same _ _ _ _ (omega arith)))

same_one : (a b : ℤ) → a *ℤ b -ℤ b *ℤ a ≡ pos 0
same_one a b =
    rw (diff-of a, diff-of b, pos_is_diff 0)
    (simp (add-diff, neg-diff, mul-diff) (diff_same _ _ _ _ (omega arith)))

pub none_first : (u : Direction) (a : Place) → norm2_of (times_of u (way a a)) ≡ 0
none_first u a =
    rw (none_one u.y u.z a.y a.z, none_one u.z u.x a.z a.x, none_one u.x u.y a.x a.y) refl

pub none_second : (u : Direction) → norm2_of (times_of u u) ≡ 0
none_second u = rw (same_one u.y u.z, same_one u.z u.x, same_one u.x u.y) refl
