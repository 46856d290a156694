-- The ends of a point box less the eye, on one axis, as they are computed.
use Rattle.std.proofs.Common.{◌≡◌, ℕ, ◌^◌, ◌≤◌, w32, w64, FitsSigned, to_z, of_z, refl, ◌∙◌}
use Rattle.std.proofs.Common.{arith, lit<, lit≤}
use borrow.Author.Differences.{ints}
use Rattle.std.specs.Prelude.{ℤ, pos, ◌+ℤ◌, ◌-ℤ◌, unsigned_abs}
use Rattle.std.proofs.lemmas.Int.{to_z-of_z, to_z_pos}
use Rattle.pm_base.proofs.ReadBack.{Computes, widened, sum_computes, difference_computes}

abbrev pub read_below : ℤ → ℕ → ℤ
read_below at radius = to_z w64 (of_z w64 at) -ℤ to_z w64 radius

abbrev pub read_above : ℤ → ℕ → ℤ
read_above at radius = to_z w64 (of_z w64 at) +ℤ to_z w64 radius

pub below_computes : (at r : ℤ) (radius : ℕ) → FitsSigned w32 at → r ≡ to_z w32 (of_z w32 at)
    → unsigned_abs at ≤ 32767 → radius ≤ 2 ^ 38
    → Computes w64 (read_below r radius) (at -ℤ pos radius) (2 ^ 39)
below_computes at r radius f e p q =
    difference_computes w64 (to_z w64 (of_z w64 r)) (to_z w64 radius) at (pos radius) 32767
    (2 ^ 38) (2 ^ 39) (widened w32 w64 at r 32767 f e p (lit< tt))
    (to_z_pos w64 radius (omega arith)) p q (lit≤ tt) (lit< tt)

pub above_computes : (at r : ℤ) (radius : ℕ) → FitsSigned w32 at → r ≡ to_z w32 (of_z w32 at)
    → unsigned_abs at ≤ 32767 → radius ≤ 2 ^ 38
    → Computes w64 (read_above r radius) (at +ℤ pos radius) (2 ^ 39)
above_computes at r radius f e p q =
    sum_computes w64 (to_z w64 (of_z w64 r)) (to_z w64 radius) at (pos radius) 32767
    (2 ^ 38) (2 ^ 39) (widened w32 w64 at r 32767 f e p (lit< tt))
    (to_z_pos w64 radius (omega arith)) p q (lit≤ tt) (lit< tt)

-- An end less the eye's coordinate.
abbrev pub read_less : ℤ → ℤ → ℤ
read_less end eye = to_z w64 (of_z w64 end) -ℤ to_z w64 (of_z w64 eye)

pub less_computes : (end v eye r : ℤ) → Computes w64 end v (2 ^ 39) → FitsSigned w32 eye
    → r ≡ to_z w32 (of_z w32 eye) → unsigned_abs eye ≤ 16777215
    → Computes w64 (read_less end r) (v -ℤ eye) (2 ^ 40)
less_computes end v eye r h f e p =
    difference_computes w64 (to_z w64 (of_z w64 end)) (to_z w64 (of_z w64 r)) v eye (2 ^ 39)
    16777215 (2 ^ 40) h.value (widened w32 w64 eye r 16777215 f e p (lit< tt)) h.small p (lit≤ tt)
    (lit< tt)

-- The ends that were computed, read back.
pub below_is : (r at eye : ℤ) (radius : ℕ) → FitsSigned w32 at → FitsSigned w32 eye
    → r ≡ to_z w32 (of_z w32 at) -ℤ pos radius -ℤ to_z w32 (of_z w32 eye)
    → r ≡ at -ℤ pos radius -ℤ eye
below_is r at eye radius f g e = e ∙ rw (to_z-of_z w32 at f, to_z-of_z w32 eye g) refl

pub above_is : (r at eye : ℤ) (radius : ℕ) → FitsSigned w32 at → FitsSigned w32 eye
    → r ≡ to_z w32 (of_z w32 at) +ℤ pos radius -ℤ to_z w32 (of_z w32 eye)
    → r ≡ at +ℤ pos radius -ℤ eye
above_is r at eye radius f g e = e ∙ rw (to_z-of_z w32 at f, to_z-of_z w32 eye g) refl

-- The ends for a small ball.
pub small_below : (r at eye : ℤ) (radius : ℕ) → FitsSigned w32 at → FitsSigned w32 eye
    → r ≡ to_z w32 (of_z w32 at) -ℤ pos radius -ℤ to_z w32 (of_z w32 eye)
    → unsigned_abs at ≤ 32767 → radius ≤ 16777216 → unsigned_abs eye ≤ 16777215
    → unsigned_abs r ≤ 2 ^ 26
small_below r at eye radius f g e p q s =
    let is = below_is r at eye radius f g e in omega (arith, ints, is, p, q, s)

pub small_above : (r at eye : ℤ) (radius : ℕ) → FitsSigned w32 at → FitsSigned w32 eye
    → r ≡ to_z w32 (of_z w32 at) +ℤ pos radius -ℤ to_z w32 (of_z w32 eye)
    → unsigned_abs at ≤ 32767 → radius ≤ 16777216 → unsigned_abs eye ≤ 16777215
    → unsigned_abs r ≤ 2 ^ 26
small_above r at eye radius f g e p q s =
    let is = above_is r at eye radius f g e in omega (arith, ints, is, p, q, s)
