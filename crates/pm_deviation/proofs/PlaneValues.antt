-- Values of planes that are small beside the normal: sums, multiples, and the values after a move.
use Rattle.std.proofs.Common.{◌≡◌, ℕ, ◌+◌, ◌*◌, ◌≤◌, inl, inr, sym, subst, arith}
use Rattle.std.proofs.Math.Nat.{le_refl, le_of_lt}
use Rattle.std.specs.Prelude.{ℤ, pos, ◌+ℤ◌, ◌-ℤ◌, ◌*ℤ◌, ◌≤ℤ◌, unsigned_abs}
use Rattle.std.proofs.lemmas.Nat.{mul-le}
use Rattle.std.proofs.lemmas.Bool.{cases_lt}
use Rattle.std.proofs.lemmas.Int.{unsigned_abs-mul}
use borrow.Author.Differences.{ints}
use Rattle.pm_base.specs.Place.{Place}
use Rattle.pm_base.specs.Geometry.{Direction, dot_of, norm2_of}
use Rattle.pm_base.proofs.Squares.{abs_plus, sum_le}
use Rattle.pm_base.proofs.Lengths.{dot_le}
use Rattle.pm_base.proofs.Ring.{diff-of, diff_same, add-diff, mul-diff, neg-diff}
use Rattle.pm_deviation.specs.declared.unit_box.UnitBox.{UnitBox}
use Rattle.pm_deviation.specs.Spreads.{along}
use Rattle.pm_deviation.specs.Lines.{way}
use Rattle.pm_deviation.specs.Laws.{IsWithin}
use Rattle.pm_deviation.proofs.Products.{IsScaledInBox, scaled_along}

pub sum_within : (a b d e n : ℕ) → a * a ≤ d * d * n → b * b ≤ e * e * n
    → (a + b) * (a + b) ≤ (d + e) * (d + e) * n
sum_within a b d e n p q = omega (arith, sum_le a 0 0 b 0 0 d e n (omega arith) (omega arith))

times_within : (k a d n : ℕ) → a * a ≤ d * d * n → (k * a) * (k * a) ≤ (k * d) * (k * d) * n
times_within k a d n p = omega (arith, mul-le (k * k) (a * a) (k * k) (d * d * n) (omega arith) p)

less_within : (a b d n : ℕ) → a ≤ b → b * b ≤ d * d * n → a * a ≤ d * d * n
less_within a b d n h p = omega (arith, p, mul-le a a b b h h)

farther : (a d e n : ℕ) → d ≤ e → a * a ≤ d * d * n → a * a ≤ e * e * n
farther a d e n h p = omega (arith, p, mul-le (d * d) n (e * e) n (mul-le d d e e h h) (le_refl n))

pub within_more : (v : ℤ) (n d e : ℕ) → d ≤ e → IsWithin v n d → IsWithin v n e
within_more v n d e h p = farther (unsigned_abs v) d e n h p

pub values_add : (u v : ℤ) (n d e : ℕ) → IsWithin u n d → IsWithin v n e
    → IsWithin (u +ℤ v) n (d + e)
values_add u v n d e p q =
    less_within (unsigned_abs (u +ℤ v)) (unsigned_abs u + unsigned_abs v) (d + e) n (abs_plus u v)
    (sum_within (unsigned_abs u) (unsigned_abs v) d e n p q)

-- one plane value is another and the product of the normal and the move
along_way : (a b c x y z x' y' z' x'' y'' z'' : ℤ)
    → a *ℤ (x'' -ℤ x) +ℤ b *ℤ (y'' -ℤ y) +ℤ c *ℤ (z'' -ℤ z)
    ≡ (a *ℤ (x' -ℤ x) +ℤ b *ℤ (y' -ℤ y) +ℤ c *ℤ (z' -ℤ z)) +ℤ
    (a *ℤ (x'' -ℤ x') +ℤ b *ℤ (y'' -ℤ y') +ℤ c *ℤ (z'' -ℤ z'))
along_way a b c x y z x' y' z' x'' y'' z'' =
    rw (
      diff-of a,
      diff-of b,
      diff-of c,
      diff-of x,
      diff-of y,
      diff-of z,
      diff-of x',
      diff-of y',
      diff-of z',
      diff-of x'',
      diff-of y'',
      diff-of z'',
    )
    (simp (add-diff, neg-diff, mul-diff) (diff_same _ _ _ _ (omega arith)))

value_after : (n : Direction) (a p q : Place)
    → dot_of n (way q a) ≡ dot_of n (way p a) +ℤ dot_of n (way q p)
value_after n a p q = along_way n.x n.y n.z a.x a.y a.z p.x p.y p.z q.x q.y q.z

pub moves_add : (normal : Direction) (a p q : Place) (n d e : ℕ)
    → IsWithin (dot_of normal (way p a)) n d → IsWithin (dot_of normal (way q p)) n e
    → IsWithin (dot_of normal (way q a)) n (d + e)
moves_add normal a p q n d e h k =
    subst (λ (v : ℤ). IsWithin v n (d + e)) (sym (value_after normal a p q))
    (values_add (dot_of normal (way p a)) (dot_of normal (way q p)) n d e h k)

-- a value times a number
values_times : (k : ℕ) (u : ℤ) (n d : ℕ) → IsWithin u n d → IsWithin (pos k *ℤ u) n (k * d)
values_times k u n d h =
    subst (λ (t : ℕ). t * t ≤ (k * d) * (k * d) * n) (sym (unsigned_abs-mul (pos k) u))
    (times_within k (unsigned_abs u) d n h)

thrice : (i j k d : ℕ) → i * d + j * d + k * d ≡ (i + j + k) * d
thrice i j k d = omega arith

pub triangles_near : (u v w : ℤ) (n d i j k : ℕ) → IsWithin u n d → IsWithin v n d → IsWithin w n d
    → IsWithin (pos i *ℤ u +ℤ pos j *ℤ v +ℤ pos k *ℤ w) n ((i + j + k) * d)
triangles_near u v w n d i j k p q r =
    subst (λ (t : ℕ). IsWithin (pos i *ℤ u +ℤ pos j *ℤ v +ℤ pos k *ℤ w) n t) (thrice i j k d)
    (values_add (pos i *ℤ u +ℤ pos j *ℤ v) (pos k *ℤ w) n (i * d + j * d) (k * d)
    (values_add (pos i *ℤ u) (pos j *ℤ v) n (i * d) (j * d) (values_times i u n d p)
    (values_times j v n d q))
    (values_times k w n d r))

-- No product of a normal with a move is longer than the move.
once : (v m n e : ℕ) → v * v ≤ n * m → m ≤ e * e → v * v ≤ e * e * n
once v m n e p q = omega (arith, p, mul-le n m n (e * e) (le_refl n) q)

pub within_way : (normal move : Direction) (e : ℕ) → norm2_of move ≤ e * e
    → IsWithin (dot_of normal move) (norm2_of normal) e
within_way normal move e h =
    once (unsigned_abs (dot_of normal move)) (norm2_of move) (norm2_of normal) e
    (dot_le normal move) h

-- Nor is it greater than a box of the normals in parts of their lengths tells.

-- |16,384 v| is at most l t, and t at most 16,384 e
divided : (v l t e : ℕ) → 16384 * v ≤ l * t → t ≤ 16384 * e → v ≤ l * e
divided v l t e p q = omega (arith, p, mul-le l t l (16384 * e) (le_refl l) q)

small : (v l e n : ℕ) → v ≤ l * e → l * l ≤ n → v * v ≤ e * e * n
small v l e n p q =
    omega (
      arith,
      mul-le v v (l * e) (l * e) p p,
      mul-le (e * e) (l * l) (e * e) n (le_refl (e * e))
          q,
    )

pub abs_up : (u v w : ℤ) → u ≤ℤ v → v ≤ℤ w → unsigned_abs u ≤ unsigned_abs w
    → unsigned_abs v ≤ unsigned_abs w
abs_up u v w p q r = omega (arith, ints)

pub abs_down : (u v w : ℤ) → u ≤ℤ v → v ≤ℤ w → unsigned_abs w ≤ unsigned_abs u
    → unsigned_abs v ≤ unsigned_abs u
abs_down u v w p q r = omega (arith, ints)

ended : (v : ℤ) (l e n : ℕ) (t : ℤ) → unsigned_abs (pos 16384 *ℤ v) ≤ unsigned_abs (pos l *ℤ t)
    → unsigned_abs t ≤ 16384 * e → l * l ≤ n → IsWithin v n e
ended v l e n t p q r =
    small (unsigned_abs v) l e n
    (divided (unsigned_abs v) l (unsigned_abs t) e
    (subst (λ (z : ℕ). z ≤ l * unsigned_abs t) (unsigned_abs-mul (pos 16384) v)
    (subst (λ (z : ℕ). unsigned_abs (pos 16384 *ℤ v) ≤ z) (unsigned_abs-mul (pos l) t) p)) q) r

pub within_box : (normal move : Direction) (l n e : ℕ) (b : UnitBox) → IsScaledInBox normal l b
    → l * l ≤ n →
    unsigned_abs (along b move).low ≤ 16384 * e → unsigned_abs (along b move).high ≤ 16384 * e
    → IsWithin (dot_of normal move) n e
within_box normal move l n e b i h p q =
    let s = along b move in
    let scaled = scaled_along normal move l b i in
    elim (cases_lt (unsigned_abs (pos l *ℤ s.low)) (unsigned_abs (pos l *ℤ s.high))) [
      | inl up ↦ ended (dot_of normal move) l e n s.high
          (abs_up (pos l *ℤ s.low) (pos 16384 *ℤ dot_of normal move) (pos l *ℤ s.high) scaled.low
          scaled.high (le_of_lt up)) q h
      | inr down ↦
          ended (dot_of normal move) l e n s.low
          (abs_down (pos l *ℤ s.low) (pos 16384 *ℤ dot_of normal move) (pos l *ℤ s.high) scaled.low
          scaled.high down) p h
    ]
