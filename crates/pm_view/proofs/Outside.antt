-- A ball on the negative side of a plane keeps on it whatever lies in the ball.
use Rattle.std.proofs.Common.{◌≡◌, ℕ, ◌+◌, ◌-◌, ◌*◌, ◌<◌, ◌≤◌, inl, inr, sym, subst, arith}
use Rattle.std.proofs.lemmas.Grind.{common_steps}
use Rattle.std.proofs.Math.Nat.{le_refl}
use Rattle.std.specs.Prelude.{ℤ, pos, ◌+ℤ◌, ◌-ℤ◌, ◌*ℤ◌, ◌<ℤ◌, unsigned_abs}
use Rattle.std.proofs.lemmas.Nat.{mul-le}
use Rattle.std.proofs.lemmas.Bool.{cases_lt}
use borrow.Author.Differences.{ints}
use Rattle.pm_base.specs.Place.{Place}
use Rattle.pm_base.specs.Geometry.{Direction, dot_of, dist2_of, norm2_of}
use Rattle.pm_base.proofs.Ring.{diff-of, diff_same, add-diff, mul-diff, neg-diff}
use Rattle.pm_base.proofs.Lengths.{dot_le}
use Rattle.pm_deviation.proofs.PlaneValues.{sum_within}
use Rattle.pm_view.specs.declared.plane.Plane.{Plane}
use Rattle.pm_view.specs.Wanted.{value_at, normal_in}
use Rattle.pm_view.specs.Laws.{way}

-- (A - K)(A - K) is above r r N, where A A is above (r + d)(r + d) N and K K is at most d d N
below : (a k r d n : ℕ) → (r + d) * (r + d) * n < a * a → k * k ≤ d * d * n → k < a
below a k r d n p q =
    elim (cases_lt k a) [ inl l ↦ l | inr l ↦ absurd (omega (arith, mul-le a a k k l l)) ]

above : (a k r d n : ℕ) → (r + d) * (r + d) * n < a * a → k * k ≤ d * d * n → k < a
    → r * r * n < (a - k) * (a - k)
above a k r d n p q l = grind (arith, common_steps, sum_within)

pub shrinks : (a k r d n : ℕ) → (r + d) * (r + d) * n < a * a → k * k ≤ d * d * n
    → (k < a) × (r * r * n < (a - k) * (a - k))
shrinks a k r d n p q = (below a k r d n p q, above a k r d n p q (below a k r d n p q))

along_way : (a b c x y z x' y' z' d : ℤ) → a *ℤ x' +ℤ b *ℤ y' +ℤ c *ℤ z' +ℤ d
    ≡ a *ℤ x +ℤ b *ℤ y +ℤ c *ℤ z +ℤ d -ℤ (a *ℤ (x -ℤ x') +ℤ b *ℤ (y -ℤ y') +ℤ c *ℤ (z -ℤ z'))
along_way a b c x y z x' y' z' d =
    rw (
      diff-of a,
      diff-of b,
      diff-of c,
      diff-of x,
      diff-of y,
      diff-of z,
      diff-of x',
      diff-of y',
      diff-of z',
      diff-of d,
    )
    (simp (add-diff, neg-diff, mul-diff) (diff_same _ _ _ _ (omega arith)))

pub value_way : (f : Plane) (p q : Place)
    → value_at f q ≡ value_at f p -ℤ dot_of (normal_in f) (way p q)
value_way f p q = along_way f.a f.b f.c p.x p.y p.z q.x q.y q.z f.d

-- the product of a plane's normal and a way that is at most d long
pub way_small : (n : Direction) (p q : Place) (d : ℕ) → dist2_of p q ≤ d * d
    → unsigned_abs (dot_of n (way p q)) * unsigned_abs (dot_of n (way p q)) ≤ d * d * norm2_of n
way_small n p q d h =
    omega (
      arith,
      dot_le n (way p q),
      mul-le (norm2_of n) (dist2_of p q) (norm2_of n) (d * d)
          (le_refl (norm2_of n)) h,
    )

-- a negative number, and another that is nearer to 0
moved_negative : (m t : ℤ) → m <ℤ pos 0 → unsigned_abs t < unsigned_abs m → (m -ℤ t) <ℤ pos 0
moved_negative m t p q = omega (arith, ints)

moved_far : (m t : ℤ) → m <ℤ pos 0 → unsigned_abs t < unsigned_abs m
    → unsigned_abs m - unsigned_abs t ≤ unsigned_abs (m -ℤ t)
moved_far m t p q = omega (arith, ints)

wider : (a b n m : ℕ) → a ≤ b → b * b * n < m → a * a * n < m
wider a b n m p q = omega (arith, mul-le (a * a) n (b * b) n (mul-le a a b b p p) (le_refl n))

farther : (n a b : ℕ) → n < a * a → a ≤ b → n < b * b
farther n a b p q = omega (arith, mul-le a a b b q q)

pub record Outside (f : Plane) (p : Place) (r : ℕ) : Type 0 where
  pub negative : value_at f p <ℤ pos 0
  pub far : r * r * norm2_of (normal_in f) < unsigned_abs (value_at f p) * unsigned_abs
      (value_at f p)

pub outside_within : (f : Plane) (p q : Place) (r s d : ℕ) → Outside f p r → dist2_of p q ≤ d * d
    → s + d ≤ r → Outside f q s
outside_within f p q r s d h near le =
    let m : ℤ = value_at f p in
    let t : ℤ = dot_of (normal_in f) (way p q) in
    let n : ℕ = norm2_of (normal_in f) in
    let wide : (s + d) * (s + d) * n < unsigned_abs m * unsigned_abs m =
    wider (s + d) r n (unsigned_abs m * unsigned_abs m) le h.far in
    let k = shrinks (unsigned_abs m) (unsigned_abs t) s d n wide
    (way_small (normal_in f) p q d near) in
    let far : s * s * n < unsigned_abs (m -ℤ t) * unsigned_abs (m -ℤ t) =
    farther (s * s * n) (unsigned_abs m - unsigned_abs t) (unsigned_abs (m -ℤ t)) k.1
    (moved_far m t h.negative k.0) in
    record {
      negative = subst (λ (z : ℤ). z <ℤ pos 0) (sym (value_way f p q))
          (moved_negative m t h.negative k.0);
      far = subst (λ (z : ℤ). s * s * n < unsigned_abs z * unsigned_abs z) (sym (value_way f p q))
          far;
    }
