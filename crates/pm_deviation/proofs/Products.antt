-- The products of a direction with the vectors of a box: in which order they stand, and how large
-- they are.
use Rattle.std.proofs.Common.{◌≡◌, ℕ, sym, subst, arith}
use Rattle.std.proofs.lemmas.Grind.{common_steps}
use Rattle.std.specs.Prelude.{ℤ, pos, negsuc, ◌+ℤ◌, ◌-ℤ◌, ◌*ℤ◌, ◌≤ℤ◌}
use Rattle.std.specs.Int.{int_min, int_max}
use Rattle.std.proofs.lemmas.Int.{clamps, by_lt_z}
use Rattle.std.proofs.Math.IntN.{*ℤ_comm}
use borrow.Author.Differences.{ints}
use Rattle.pm_base.specs.Geometry.{Direction, dot_of}
use Rattle.pm_base.proofs.Ring.{diff-of, diff_same, add-diff, mul-diff, neg-diff, pos_is_diff}
use Rattle.pm_bounds.proofs.ListLaws.{same_z, ≤ℤ_by, min_left, min_right, max_left, max_right}
use Rattle.pm_deviation.specs.declared.spread.Spread.{Spread}
use Rattle.pm_deviation.specs.declared.unit_box.UnitBox.{UnitBox}
use Rattle.pm_deviation.specs.Spreads.{times, along}

-- Products with one number

not_negative : (a b : ℤ) → pos 0 ≤ℤ a → pos 0 ≤ℤ b → pos 0 ≤ℤ (a *ℤ b)
not_negative (pos a) (pos b) p q = omega (arith, ints)
not_negative (pos a) (negsuc b) p q = absurd (omega (arith, ints))
not_negative (negsuc a) b p q = absurd (omega (arith, ints))

times_minus : (k u v : ℤ) → k *ℤ (v -ℤ u) ≡ k *ℤ v -ℤ k *ℤ u
times_minus k u v =
    rw (diff-of k, diff-of u, diff-of v)
    (simp (add-diff, neg-diff, mul-diff) (diff_same _ _ _ _ (omega arith)))

minus_times : (k u v : ℤ) → (pos 0 -ℤ k) *ℤ (v -ℤ u) ≡ k *ℤ u -ℤ k *ℤ v
minus_times k u v =
    rw (diff-of k, diff-of u, diff-of v, pos_is_diff 0)
    (simp (add-diff, neg-diff, mul-diff) (diff_same _ _ _ _ (omega arith)))

apart : (u v : ℤ) → u ≤ℤ v → pos 0 ≤ℤ (v -ℤ u)
apart u v h = omega (arith, ints)

together : (u v : ℤ) → pos 0 ≤ℤ (v -ℤ u) → u ≤ℤ v
together u v h = omega (arith, ints)

pub times_up : (k u v : ℤ) → pos 0 ≤ℤ k → u ≤ℤ v → (k *ℤ u) ≤ℤ (k *ℤ v)
times_up k u v p q =
    together (k *ℤ u) (k *ℤ v)
    (subst (λ (z : ℤ). pos 0 ≤ℤ z) (times_minus k u v) (not_negative k (v -ℤ u) p (apart u v q)))

pub times_down : (k u v : ℤ) → k ≤ℤ pos 0 → u ≤ℤ v → (k *ℤ v) ≤ℤ (k *ℤ u)
times_down k u v p q =
    together (k *ℤ v) (k *ℤ u)
    (subst (λ (z : ℤ). pos 0 ≤ℤ z) (minus_times k u v)
    (not_negative (pos 0 -ℤ k) (v -ℤ u) (apart k (pos 0) p) (apart u v q)))

pub least_one : (k u v y : ℤ) → u ≤ℤ y → y ≤ℤ v → int_min (k *ℤ u) (k *ℤ v) ≤ℤ (k *ℤ y)
least_one k u v y p q =
    grind (arith, common_steps, by_lt_z, min_left, min_right, times_down, times_up)

pub greatest_one : (k u v y : ℤ) → u ≤ℤ y → y ≤ℤ v → (k *ℤ y) ≤ℤ int_max (k *ℤ u) (k *ℤ v)
greatest_one k u v y p q =
    grind (arith, common_steps, by_lt_z, max_left, max_right, times_down, times_up)

-- a spread of numbers times m
pub least_turned : (m a b x : ℤ) → a ≤ℤ x → x ≤ℤ b → int_min (a *ℤ m) (b *ℤ m) ≤ℤ (x *ℤ m)
least_turned m a b x p q = rw (*ℤ_comm a m, *ℤ_comm b m, *ℤ_comm x m) (least_one m a b x p q)

pub greatest_turned : (m a b x : ℤ) → a ≤ℤ x → x ≤ℤ b → (x *ℤ m) ≤ℤ int_max (a *ℤ m) (b *ℤ m)
greatest_turned m a b x p q = rw (*ℤ_comm a m, *ℤ_comm b m, *ℤ_comm x m) (greatest_one m a b x p q)

pub three_le : (a b c x y z : ℤ) → a ≤ℤ x → b ≤ℤ y → c ≤ℤ z → (a +ℤ b +ℤ c) ≤ℤ (x +ℤ y +ℤ z)
three_le a b c x y z p q r = omega (arith, ints)

-- Products in parts of a length

-- l (k m) is (l k) m
turned : (l k m : ℤ) → l *ℤ (k *ℤ m) ≡ (l *ℤ k) *ℤ m
turned l k m =
    rw (diff-of l, diff-of k, diff-of m) (simp (mul-diff) (diff_same _ _ _ _ (omega arith)))

three_times : (l a b c : ℤ) → l *ℤ (a +ℤ b +ℤ c) ≡ l *ℤ a +ℤ l *ℤ b +ℤ l *ℤ c
three_times l a b c =
    rw (diff-of l, diff-of a, diff-of b, diff-of c)
    (simp (add-diff, mul-diff) (diff_same _ _ _ _ (omega arith)))

pub min_below : (x y z : ℤ) → x ≤ℤ y → x ≤ℤ z → x ≤ℤ int_min y z
min_below x y z p q = omega (arith, ints, clamps)

pub max_above : (x y z : ℤ) → y ≤ℤ x → z ≤ℤ x → int_max y z ≤ℤ x
max_above x y z p q = omega (arith, ints, clamps)

natural : (l : ℕ) → pos 0 ≤ℤ pos l
natural l = omega (arith, ints)

-- A spread holds a number in 16,384ths of a length l, or of a whole number l for it.
pub record IsScaledIn (n : ℤ) (l : ℕ) (s : Spread) : Type 0 where
  pub low : (pos l *ℤ s.low) ≤ℤ (pos 16384 *ℤ n)
  pub high : (pos 16384 *ℤ n) ≤ℤ (pos l *ℤ s.high)

-- l times the least product is at most the least product of l times the ends
least_times : (l : ℕ) (a b m : ℤ)
    → (pos l *ℤ int_min (a *ℤ m) (b *ℤ m)) ≤ℤ int_min ((pos l *ℤ a) *ℤ m) ((pos l *ℤ b) *ℤ m)
least_times l a b m =
    min_below (pos l *ℤ int_min (a *ℤ m) (b *ℤ m)) ((pos l *ℤ a) *ℤ m) ((pos l *ℤ b) *ℤ m)
    (subst (λ (z : ℤ). (pos l *ℤ int_min (a *ℤ m) (b *ℤ m)) ≤ℤ z) (turned (pos l) a m)
    (times_up (pos l) _ _ (natural l) (min_left _ _ _ (same_z (a *ℤ m)))))
    (subst (λ (z : ℤ). (pos l *ℤ int_min (a *ℤ m) (b *ℤ m)) ≤ℤ z) (turned (pos l) b m)
    (times_up (pos l) _ _ (natural l) (min_right _ _ _ (same_z (b *ℤ m)))))

greatest_times : (l : ℕ) (a b m : ℤ)
    → int_max ((pos l *ℤ a) *ℤ m) ((pos l *ℤ b) *ℤ m) ≤ℤ (pos l *ℤ int_max (a *ℤ m) (b *ℤ m))
greatest_times l a b m =
    max_above (pos l *ℤ int_max (a *ℤ m) (b *ℤ m)) ((pos l *ℤ a) *ℤ m) ((pos l *ℤ b) *ℤ m)
    (subst (λ (z : ℤ). z ≤ℤ (pos l *ℤ int_max (a *ℤ m) (b *ℤ m))) (turned (pos l) a m)
    (times_up (pos l) _ _ (natural l) (max_left _ _ _ (same_z (a *ℤ m)))))
    (subst (λ (z : ℤ). z ≤ℤ (pos l *ℤ int_max (a *ℤ m) (b *ℤ m))) (turned (pos l) b m)
    (times_up (pos l) _ _ (natural l) (max_right _ _ _ (same_z (b *ℤ m)))))

pub scaled_times : (n : ℤ) (l : ℕ) (s : Spread) (m : ℤ) → IsScaledIn n l s
    → IsScaledIn (n *ℤ m) l (times s m)
scaled_times n l s m i = record {
  low = subst (λ (z : ℤ). (pos l *ℤ (times s m).low) ≤ℤ z) (sym (turned (pos 16384) n m))
      (≤ℤ_by _ _ _ (least_times l s.low s.high m)
      (least_turned m (pos l *ℤ s.low) (pos l *ℤ s.high) (pos 16384 *ℤ n) i.low i.high));
  high = subst (λ (z : ℤ). z ≤ℤ (pos l *ℤ (times s m).high)) (sym (turned (pos 16384) n m))
      (≤ℤ_by _ _ _ (greatest_turned m (pos l *ℤ s.low) (pos l *ℤ s.high) (pos 16384 *ℤ n) i.low
      i.high) (greatest_times l s.low s.high m));
}

-- A box holds a vector so, on each axis.
pub record IsScaledInBox (n : Direction) (l : ℕ) (b : UnitBox) : Type 0 where
  pub x : IsScaledIn n.x l b.x
  pub y : IsScaledIn n.y l b.y
  pub z : IsScaledIn n.z l b.z

pub between : (x x' y y' : ℤ) → x ≡ x' → y ≡ y' → x' ≤ℤ y' → x ≤ℤ y
between x x' y y' e f h = rw (e, f) h

-- and then its product with a direction
pub scaled_along : (n m : Direction) (l : ℕ) (b : UnitBox) → IsScaledInBox n l b
    → IsScaledIn (dot_of n m) l (along b m)
unfolding along
scaled_along n m l b i =
    let x = scaled_times n.x l b.x m.x i.x in
    let y = scaled_times n.y l b.y m.y i.y in
    let z = scaled_times n.z l b.z m.z i.z in
    record {
      low = between _ _ _ _
          (three_times (pos l) (times b.x m.x).low (times b.y m.y).low (times b.z m.z).low)
          (three_times (pos 16384) (n.x *ℤ m.x) (n.y *ℤ m.y) (n.z *ℤ m.z))
          (three_le _ _ _ _ _ _ x.low y.low z.low);
      high = between _ _ _ _ (three_times (pos 16384) (n.x *ℤ m.x) (n.y *ℤ m.y) (n.z *ℤ m.z))
          (three_times (pos l) (times b.x m.x).high (times b.y m.y).high (times b.z m.z).high)
          (three_le _ _ _ _ _ _ x.high y.high z.high);
    }

-- a wider spread holds it too
pub scaled_over : (n : ℤ) (l : ℕ) (a b : Spread) → a.low ≤ℤ b.low → b.high ≤ℤ a.high
    → IsScaledIn n l b → IsScaledIn n l a
scaled_over n l a b p q i = record {
  low = ≤ℤ_by _ _ _ (times_up (pos l) a.low b.low (natural l) p) i.low;
  high = ≤ℤ_by _ _ _ i.high (times_up (pos l) b.high a.high (natural l) q);
}
