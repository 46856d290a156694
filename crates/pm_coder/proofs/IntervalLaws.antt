-- What choices and shifts do to an interval.
use Rattle.std.proofs.Common.{◌≡◌, ℕ, zero, suc, ◌+◌, ◌-◌, ◌*◌, ◌/◌, ◌<◌, ◌≤◌, Bool, true, false}
use Rattle.std.proofs.Common.{[], ◌∷◌, length, refl, arith, nat_le, ◌⊎◌, inl, inr}
use Rattle.std.proofs.Common.{mul-le-mul_left}
use Rattle.std.proofs.lemmas.Bool.Decides.{nat_tests}
use Rattle.pm_coder.specs.declared.interval.Interval.{Interval}
use Rattle.pm_coder.specs.Intervals.{Choice, choice, mid, narrowed, is_apart, shifted, top}
use Rattle.pm_coder.specs.Intervals.{same_bytes, settled, after}

-- Nothing is shifted where the top bytes differ.
pub settled-apart : (n : ℕ) (i : Interval) → is_apart i ≡ true → settled n i ≡ i
unfolding settled
settled-apart zero i h = refl
settled-apart (suc n) i h = rw h refl

pub same_bytes-apart : (n : ℕ) (i : Interval) → is_apart i ≡ true → same_bytes n i ≡ []
unfolding same_bytes
same_bytes-apart zero i h = refl
same_bytes-apart (suc n) i h = rw h refl

-- One shift.
pub settled-more : (n m : ℕ) (i : Interval) → n ≡ m + 1 → is_apart i ≡ false
    → settled n i ≡ settled m (shifted i)
unfolding settled
settled-more zero m i e h = absurd (omega arith)
settled-more (suc n) m i e h = let s : m ≡ n = omega arith in rw (h, s) refl

pub same_bytes-more : (n m : ℕ) (i : Interval) → n ≡ m + 1 → is_apart i ≡ false
    → same_bytes n i ≡ top i.high ∷ same_bytes m (shifted i)
unfolding same_bytes
same_bytes-more zero m i e h = absurd (omega arith)
same_bytes-more (suc n) m i e h = let s : m ≡ n = omega arith in rw (h, s) refl

-- No shift.
pub settled-zero : (i : Interval) → settled 0 i ≡ i
unfolding settled
settled-zero i = refl

pub same_bytes-zero : (i : Interval) → same_bytes 0 i ≡ []
unfolding same_bytes
same_bytes-zero i = refl

-- Two cases of one test.
pub apart_cases : (b : Bool) → (b ≡ true) ⊎ (b ≡ false)
apart_cases true = inl refl
apart_cases false = inr refl

pub at_least : (a b : ℕ) → (a ≤ b) ⊎ (b < a)
at_least a b =
    elim (apart_cases (nat_le a b)) [
      | inl h ↦ inl (grind (arith, nat_tests))
      | inr h ↦ inr (grind (arith, nat_tests))
    ]

-- An interval of 32-bit numbers with something in it.
pub record IsOrdered (i : Interval) : Type 0 where
  pub order : i.low ≤ i.high
  pub most : i.high < 4294967296

-- An interval of 32-bit numbers with more than one in it.
pub record IsWide (i : Interval) : Type 0 where
  pub wide : i.low < i.high
  pub most : i.high < 4294967296

-- Where the top bytes are the same, and where they differ.
same_top : (a b : ℕ) → is_apart (record { low = a; high = b }) ≡ false
    → a / 16777216 ≡ b / 16777216
same_top a b h = grind (arith, nat_tests)

other_top : (a b : ℕ) → is_apart (record { low = a; high = b }) ≡ true → a ≤ b → a < b
other_top a b h o = grind (arith, nat_tests)

pub top_of_apart : (i : Interval) → is_apart i ≡ false → i.low / 16777216 ≡ i.high / 16777216
top_of_apart i h = same_top i.low i.high h

-- A shift leaves more than one number.
pub shifted-wide : (i : Interval) → IsOrdered i → is_apart i ≡ false → IsWide (shifted i)
shifted-wide i o h =
    let e = top_of_apart i h in
    let below = o.order in
    record { wide = omega arith; most = omega arith }

pub settled-wide : (n : ℕ) (i : Interval) → IsWide i → IsWide (settled n i)
settled-wide zero i w = rw (settled-zero i) w
settled-wide (suc n) i w =
    elim (apart_cases (is_apart i)) [
      | inl h ↦ rw (settled-apart (suc n) i h) w
      | inr h ↦
          let o : IsOrdered i = record { order = omega arith; most = w.most } in
          rw (settled-more (suc n) n i (omega arith) h)
          (settled-wide n (shifted i) (shifted-wide i o h))
    ]

pub settled_once-wide : (n : ℕ) (i : Interval) → IsOrdered i → IsWide (settled (suc n) i)
settled_once-wide n i o =
    elim (apart_cases (is_apart i)) [
      | inl h ↦
          let w : IsWide i = record { wide = other_top i.low i.high h o.order; most = o.most } in
          rw (settled-apart (suc n) i h) w
      | inr h ↦
          rw (settled-more (suc n) n i (omega arith) h)
          (settled-wide n (shifted i) (shifted-wide i o h))
    ]

-- The middle lies within, and not at the end.
pub mid-within : (i : Interval) (share : ℕ) → i.low < i.high → share < 65536
    → (i.low ≤ mid i share) × (mid i share < i.high)
mid-within i share w s =
    let gap : (i.high - i.low) * share ≤ (i.high - i.low) * 65535 =
    mul-le-mul_left (i.high - i.low) (omega arith) in
    (omega arith, omega arith)

-- A choice's part lies within.
pub record Within (i part : Interval) : Type 0 where
  pub low : i.low ≤ part.low
  pub high : part.high ≤ i.high
  pub order : part.low ≤ part.high

pub narrowed-within : (i : Interval) (bit : Bool) (share : ℕ) → i.low < i.high → share < 65536
    → Within i (narrowed i (choice bit share))
narrowed-within i true share w s =
    let m = mid-within i share w s in
    record { low = omega arith; high = omega arith; order = omega arith }
narrowed-within i false share w s =
    let m = mid-within i share w s in
    record { low = omega arith; high = omega arith; order = omega arith }

pub narrowed-ordered : (i : Interval) (c : Choice) → IsWide i → c.share < 65536
    → IsOrdered (narrowed i c)
narrowed-ordered i c w s =
    let p = narrowed-within i c.bit c.share w.wide s in
    record { order = p.order; most = omega (arith, p.high, w.most) }

-- After a choice there is more than one number.
pub after-wide : (i : Interval) (c : Choice) → IsWide i → c.share < 65536 → IsWide (after i c)
after-wide i c w s = settled_once-wide 3 (narrowed i c) (narrowed-ordered i c w s)

-- A choice gives n bytes at most.
pub length-same_bytes : (n : ℕ) (i : Interval) → length (same_bytes n i) ≤ n
length-same_bytes zero i = rw (same_bytes-zero i) (omega arith)
length-same_bytes (suc n) i =
    elim (apart_cases (is_apart i)) [
      | inl h ↦ rw (same_bytes-apart (suc n) i h) (omega arith)
      | inr h ↦
          rw (same_bytes-more (suc n) n i (omega arith) h)
          (omega (arith, length-same_bytes n (shifted i)))
    ]

-- What is left after a choice.
pub left-wide : (i part left : Interval) (bit : Bool) (share : ℕ)
    → part ≡ narrowed i (choice bit share) → left ≡ settled 4 part
    → i.low < i.high → i.high < 4294967296 → share < 65536 → left.low < left.high
left-wide i part left bit share e s w m f =
    let c : Choice = choice bit share in
    let start : IsWide i = record { wide = w; most = m } in
    let end : IsWide left = rw (s, e) (after-wide i c start f) in
    end.wide
