-- Code bytes spell a number of the interval.
use Rattle.std.proofs.Common.{◌≡◌, ℕ, zero, suc, ◌+◌, ◌<◌, ◌≤◌, false}
use Rattle.std.proofs.Common.{List, [], ◌∷◌, ◌++◌, length, refl, arith, inl, inr}
use Rattle.std.specs.Int.{w32, to_be_bytes}
use Rattle.std.proofs.lemmas.Nat.{from_be_bytes-to_be_bytes_4}
use Rattle.pm_coder.specs.declared.interval.Interval.{Interval}
use Rattle.pm_coder.specs.Intervals.{Choice, is_apart, shifted, top, same_bytes, settled}
use Rattle.pm_coder.specs.Intervals.{narrowed, choice_bytes, after}
use Rattle.pm_coder.specs.Coding.{code_from, window, AreFit}
use Rattle.pm_coder.proofs.IntervalLaws.{IsOrdered, IsWide, Within, apart_cases, top_of_apart}
use Rattle.pm_coder.proofs.IntervalLaws.{settled-zero, same_bytes-zero, settled-apart}
use Rattle.pm_coder.proofs.IntervalLaws.{same_bytes-apart, settled-more, same_bytes-more}
use Rattle.pm_coder.proofs.IntervalLaws.{shifted-wide, narrowed-within, narrowed-ordered}
use Rattle.pm_coder.proofs.IntervalLaws.{after-wide}

-- Each is a byte.
abbrev pub AreBytes : List ℕ → Type 0
AreBytes [] = Unit {0}
AreBytes (b ∷ bs) = (b < 256) × AreBytes bs

-- At least four bytes, the first four of which are a number of the interval.
pub record Holds (i : Interval) (bytes : List ℕ) : Type 0 where
  pub low : i.low ≤ window bytes
  pub high : window bytes ≤ i.high
  pub long : 4 ≤ length bytes
  pub small : AreBytes bytes

-- What follows the first four doesn't count.
pub window-append : (bytes more : List ℕ) → 4 ≤ length bytes
    → window (bytes ++ more) ≡ window bytes
window-append [] more l = absurd (omega arith)
window-append (a ∷ []) more l = absurd (omega arith)
window-append (a ∷ b ∷ []) more l = absurd (omega arith)
window-append (a ∷ b ∷ c ∷ []) more l = absurd (omega arith)
window-append (a ∷ b ∷ c ∷ d ∷ bytes) more l = refl

-- Before a shift.
unshifted : (i : Interval) (bytes : List ℕ) → IsOrdered i → is_apart i ≡ false
    → Holds (shifted i) bytes → Holds i (top i.high ∷ bytes)
unshifted i [] o h s = absurd (omega (arith, s.long))
unshifted i (a ∷ []) o h s = absurd (omega (arith, s.long))
unshifted i (a ∷ b ∷ []) o h s = absurd (omega (arith, s.long))
unshifted i (a ∷ b ∷ c ∷ []) o h s = absurd (omega (arith, s.long))
unshifted i (a ∷ b ∷ c ∷ d ∷ bytes) o h s =
    let e = top_of_apart i h in
    let last : d < 256 = s.small.1.1.1.0 in
    let from = s.low in
    let to = s.high in
    let most = o.most in
    record {
      low = omega arith;
      high = omega arith;
      long = omega arith;
      small = (omega arith, s.small);
    }

-- Before all shifts.
unsettled : (n : ℕ) (i : Interval) (bytes : List ℕ) → IsOrdered i
    → Holds (settled n i) bytes → Holds i (same_bytes n i ++ bytes)
unsettled zero i bytes o s = rw (same_bytes-zero i) (rw (settled-zero i) at s)
unsettled (suc n) i bytes o s =
    elim (apart_cases (is_apart i)) [
      | inl h ↦ rw (same_bytes-apart (suc n) i h) (rw (settled-apart (suc n) i h) at s)
      | inr h ↦
          let w = shifted-wide i o h in
          let below : (shifted i).low ≤ (shifted i).high = omega (arith, w.wide) in
          let o' : IsOrdered (shifted i) = record { order = below; most = w.most } in
          let e : suc n ≡ n + 1 = omega arith in
          let on = settled-more (suc n) n i e h in
          let held : Holds (settled n (shifted i)) bytes = rw on at s in
          rw (same_bytes-more (suc n) n i e h)
          (unshifted i (same_bytes n (shifted i) ++ bytes) o h
          (unsettled n (shifted i) bytes o' held))
    ]

-- A larger interval holds them too.
wider : (i part : Interval) (bytes : List ℕ) → Within i part → Holds part bytes → Holds i bytes
wider i part bytes w h = record {
  low = omega (arith, w.low, h.low);
  high = omega (arith, w.high, h.high);
  long = h.long;
  small = h.small;
}

-- The four bytes of a number.
spelled : (n : ℕ) → n < 4294967296 → AreBytes (to_be_bytes w32 n)
spelled n f = (omega arith, (omega arith, (omega arith, (omega arith, tt))))

-- The code bytes of a first choice and what follows hold in its part.
pub part-holds : (c : Choice) (cs : List Choice) (i : Interval) → IsWide i → c.share < 65536
    → Holds (after i c) (code_from (after i c) cs)
    → Holds (narrowed i c) (choice_bytes i c ++ code_from (after i c) cs)
part-holds c cs i w s h =
    unsettled 4 (narrowed i c) (code_from (after i c) cs) (narrowed-ordered i c w s) h

-- The code bytes from an interval on hold in it.
pub code_from-holds : (cs : List Choice) (i : Interval) → IsWide i → AreFit cs
    → Holds i (code_from i cs)
unfolding code_from
code_from-holds [] i w f =
    let most : i.low < 4294967296 = omega (arith, w.wide, w.most) in
    let e = from_be_bytes-to_be_bytes_4 i.low most in
    record {
      low = omega (arith, e);
      high = omega (arith, e, w.wide);
      long = omega arith;
      small = spelled i.low most;
    }
code_from-holds (c ∷ cs) i w f =
    wider i (narrowed i c) (choice_bytes i c ++ code_from (after i c) cs)
    (narrowed-within i c.bit c.share w.wide f.0)
    (part-holds c cs i w f.0
    (code_from-holds cs (after i c) (after-wide i c w f.0) f.1))
