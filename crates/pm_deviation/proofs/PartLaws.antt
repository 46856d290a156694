-- Roots rounded down, quotients rounded up, and the parts of a normal that they give.
use Rattle.std.proofs.Common.{◌≡◌, ℕ, zero, suc, ◌+◌, ◌-◌, ◌*◌, ◌/◌, ◌<◌, ◌≤◌, eqb, ◌⊎◌, None, Some}
use Rattle.std.proofs.Common.{subst, arith}
use Rattle.std.proofs.Math.Nat.{le_refl, div-mul-le_self}
use Rattle.std.specs.Prelude.{ℤ, pos, negsuc, neg_ℤ, ◌*ℤ◌, ◌≤ℤ◌}
use Rattle.std.specs.Int.{div_ceil}
use Rattle.std.proofs.lemmas.Nat.{mul-le}
use Rattle.std.proofs.lemmas.Bool.{cond-true, cond-false, leb-true, leb-false, eq-eqb, ne_eqb}
use Rattle.std.proofs.lemmas.Grind.{div_ceil_times, common_steps}
use borrow.Author.Differences.{ints}
use Rattle.pm_base.specs.Geometry.{Direction, norm2_of}
use Rattle.pm_base.specs.Rounded.{root_up}
use Rattle.pm_base.proofs.Root.{root_up_is}
use Rattle.pm_base.proofs.Ring.{diff-of, diff_same, mul-diff, neg-diff}
use Rattle.pm_base.proofs.Squares.{root_le}
use Rattle.pm_deviation.specs.declared.spread.Spread.{Spread}
use Rattle.pm_deviation.specs.declared.unit_box.UnitBox.{UnitBox}
use Rattle.pm_deviation.specs.Spreads.{mirrored}
use Rattle.pm_deviation.specs.Normals.{root_down, share, part_of, unit_box}
use Rattle.pm_deviation.proofs.Products.{IsScaledIn, IsScaledInBox, between}

-- Quotients rounded up

pub ceil_enough : (n m : ℕ) → 0 < m → n ≤ div_ceil n m * m
ceil_enough n m l = (div_ceil_times n m l).0

clash : (q m c n : ℕ) → c * m < n + m → n ≤ q * m → q < c → ⊥
clash q m c n p r l = omega (arith, mul-le (q + 1) m c m (omega arith) (le_refl m))

pub ceil_least : (n m q : ℕ) → 0 < m → n ≤ q * m → div_ceil n m ≤ q
ceil_least n m q l h = grind (arith, common_steps, clash, div_ceil_times)

-- a greater number, by a divisor that isn't greater
pub ceil_grows : (m n c d : ℕ) → m ≤ n → d ≤ c → 0 < d → div_ceil m c ≤ div_ceil n d
ceil_grows m n c d p q l = grind (arith, common_steps, ceil_enough, ceil_least, le_refl, mul-le)

-- Roots rounded down

pub record IsRootDown (n r : ℕ) : Type 0 where
  pub square : r * r ≤ n
  pub most : (k : ℕ) → k * k ≤ n → k ≤ r

exact : (n r : ℕ) → n ≤ r * r → r * r ≤ n → IsRootDown n r
exact n r p q = record { square = q; most = λ k h. root_le k r (omega arith) }

less_square : (n r : ℕ) → ((m : ℕ) → n ≤ m * m → r ≤ m) → 0 < r → (r - 1) * (r - 1) ≤ n
less_square n r least l = grind (arith, common_steps)

some_root : (n r : ℕ) → n < r * r → 0 < r
some_root n zero l = absurd (omega arith)
some_root n (suc r) l = omega arith

less_root : (n r k : ℕ) → n < r * r → k * k ≤ n → k ≤ r - 1
less_root n r k l h = grind (arith, common_steps, mul-le)

pub root_down_is : (n : ℕ) → IsRootDown n (root_down n)
unfolding root_down
root_down_is n =
    grind (
      arith,
      common_steps,
      cond-false,
      cond-true,
      exact,
      leb-false,
      leb-true,
      less_root,
      less_square,
      root_up_is,
      some_root,
    )

pub root_down-some : (n : ℕ) → 0 < n → 0 < root_down n
root_down-some n l = (let h = (root_down_is n).most 1 (omega arith) in omega arith)

pub roots_order : (n : ℕ) → root_down n ≤ root_up n
roots_order n =
    root_le (root_down n) (root_up n)
    (omega (arith, (root_down_is n).square, (root_up_is n).enough))

-- Parts

-- l q is at most m, where q is m divided by at least l; and l c at least m, where c is m divided by
-- at most l
short : (m l long : ℕ) → l ≤ long → l * (m / long) ≤ m
short m l long h = grind (arith, common_steps, div-mul-le_self, le_refl, mul-le)

long : (m l short : ℕ) → 0 < short → short ≤ l → m ≤ l * div_ceil m short
long m l short p h = grind (arith, common_steps, ceil_enough, le_refl, mul-le)

in_order : (a b c d : ℕ) → a * b ≤ c * d → (pos a *ℤ pos b) ≤ℤ (pos c *ℤ pos d)
in_order a b c d h = omega (arith, ints)

share_scaled : (n l s t : ℕ) → 0 < s → s ≤ l → l ≤ t → IsScaledIn (pos n) l (share n s t)
share_scaled n l s t p q r = grind (arith, common_steps, in_order, long, short)

pub times_neg : (k z : ℤ) → k *ℤ neg_ℤ z ≡ neg_ℤ (k *ℤ z)
times_neg k z =
    rw (diff-of k, diff-of z) (simp (neg-diff, mul-diff) (diff_same _ _ _ _ (omega arith)))

pub neg_falls : (x y : ℤ) → x ≤ℤ y → neg_ℤ y ≤ℤ neg_ℤ x
neg_falls x y h = omega (arith, ints)

mirrored_scaled : (n : ℤ) (l : ℕ) (s : Spread) → IsScaledIn n l s
    → IsScaledIn (neg_ℤ n) l (mirrored s)
mirrored_scaled n l s i = record {
  low = between _ _ _ _ (times_neg (pos l) s.high) (times_neg (pos 16384) n)
      (neg_falls (pos 16384 *ℤ n) (pos l *ℤ s.high) i.high);
  high = between _ _ _ _ (times_neg (pos 16384) n) (times_neg (pos l) s.low)
      (neg_falls (pos l *ℤ s.low) (pos 16384 *ℤ n) i.low);
}

neg_suc : (n : ℕ) → neg_ℤ (pos (n + 1)) ≡ negsuc n
neg_suc n = omega (arith, ints)

-- A length between the two roots: each of the roots is one, and so is the length itself.
pub record IsLength (n l : ℕ) : Type 0 where
  pub some : 0 < n
  pub low : root_down n ≤ l
  pub high : l ≤ root_up n

pub low_length : (n : ℕ) → 0 < n → IsLength n (root_down n)
low_length n p = record { some = p; low = le_refl (root_down n); high = roots_order n }

pub high_length : (n : ℕ) → 0 < n → IsLength n (root_up n)
high_length n p = record { some = p; low = roots_order n; high = le_refl (root_up n) }

pub part_scaled : (z : ℤ) (n l : ℕ) → IsLength n l → IsScaledIn z l (part_of z n)
unfolding part_of
part_scaled (pos z) n l is =
    share_scaled z l (root_down n) (root_up n) (root_down-some n is.some) is.low is.high
part_scaled (negsuc z) n l is =
    subst (λ (y : ℤ). IsScaledIn y l (mirrored (share (z + 1) (root_down n) (root_up n))))
    (neg_suc z)
    (mirrored_scaled (pos (z + 1)) l (share (z + 1) (root_down n) (root_up n))
    (share_scaled (z + 1) l (root_down n) (root_up n) (root_down-some n is.some) is.low
    is.high))

-- a box of the three
abbrev pub parts_of : Direction → UnitBox
parts_of n = record {
  x = part_of n.x (norm2_of n);
  y = part_of n.y (norm2_of n);
  z = part_of n.z (norm2_of n);
}

pub parts_scaled : (n : Direction) (l : ℕ) → IsLength (norm2_of n) l
    → IsScaledInBox n l (parts_of n)
parts_scaled n l is =
    record {
      x = part_scaled n.x (norm2_of n) l is;
      y = part_scaled n.y (norm2_of n) l is;
      z =
          part_scaled n.z (norm2_of n) l is;
    }

-- a normal without length has none
pub unit_box_cases : (n : Direction)
    → (unit_box n ≡ None) ⊎ ((unit_box n ≡ Some (parts_of n)) × (0 < norm2_of n))
unfolding unit_box
unit_box_cases n = grind (arith, common_steps, cond-false, cond-true, eq-eqb, ne_eqb)

pub unit_box_some : (n : Direction) → 0 < norm2_of n → unit_box n ≡ Some (parts_of n)
unfolding unit_box
unit_box_some n some =
    cond-false (eqb (norm2_of n) 0) None (Some (parts_of n))
    (ne_eqb (norm2_of n) 0 (λ is. absurd (omega arith)))
