-- Laws of the digits that a number is written with.
use Rattle.std.proofs.Common.{◌≡◌, ℕ, zero, suc, ◌+◌, ◌*◌, ◌/◌, ◌^◌, ◌<◌, ◌≤◌, true, List, ◌++◌}
use Rattle.std.proofs.Common.{length, take, drop, ℤ, pos, negsuc, refl, sym, ◌∙◌, ap, arith}
use Rattle.std.proofs.Common.{length-append}
use Rattle.std.specs.Prelude.{unsigned_abs, int_le}
use Rattle.std.specs.Fmt.{decimal, signed_decimal}
use Rattle.std.proofs.Math.Nat.{pow-suc, one-le-pow}
use Rattle.std.proofs.lemmas.Fmt.{decimal_digit, decimal_step, length-decimal-le}
use Rattle.std.proofs.lemmas.List.{append_assoc, take-append-drop, length-take-le}
use Rattle.std.proofs.Math.Seq.{take-append_seam}

pub length_zero : (n : ℕ) → n ≡ 0 → length (decimal n) ≡ 1
length_zero n is = rw is (ap length (decimal_digit 0 (omega arith)))

-- A number between two powers of ten that follow each other.
pub length_between : (k n : ℕ) → 10 ^ k ≤ n → n < 10 * 10 ^ k → n < 2 ^ 64
    → length (decimal n) ≡ k + 1
length_between zero n le lt fits = ap length (decimal_digit n (omega (arith, lt)))
length_between (suc k) n le lt fits =
    let more : 10 ≤ n = omega (arith, le, pow-suc 10 k, one-le-pow k 10 (omega arith)) in
    let before = length_between k (n / 10) (omega (arith, le, pow-suc 10 k))
    (omega (arith, lt, pow-suc 10 k)) (omega arith) in
    ap length (decimal_step n more fits) ∙ length-append (decimal (n / 10)) _
    ∙ omega (arith, before)

pub length_small : (n : ℕ) → n < 2 ^ 32 → length (decimal n) ≤ 10
length_small n fits = length-decimal-le 10 n (omega arith) (omega arith) (omega arith)

pub length_most : (n : ℕ) → n < 2 ^ 64 → length (decimal n) ≤ 20
length_most n fits = length-decimal-le 20 n (omega arith) (omega arith) fits

pub no_minus : (z : ℤ) → int_le (pos 0) z ≡ true → decimal (unsigned_abs z) ≡ signed_decimal z
no_minus (pos n) is = refl
no_minus (negsuc n) is = absurd cc

-- Bytes that were written from a place on.
pub digits_put : (old new digits : List ℕ) (at end : ℕ) → at + length digits ≡ end
    → at ≤ length old → drop at new ≡ digits ++ drop end old → take at new ≡ take at old
    → take end new ≡ take at old ++ digits
digits_put old new digits at end is le written before =
    let whole : new ≡ (take at old ++ digits) ++ drop end old =
    sym (take-append-drop at new) ∙ ap (λ (l : List ℕ). l ++ drop at new) before
    ∙ ap (λ (l : List ℕ). take at old ++ l) written
    ∙ sym (append_assoc (take at old) digits (drop end old)) in
    let long : length (take at old ++ digits) ≡ end =
    omega (arith, length-append (take at old) digits, length-take-le at old le, is) in
    ap (take end) whole
    ∙ ap (λ (n : ℕ). take n ((take at old ++ digits) ++ drop end old)) (sym long)
    ∙ take-append_seam (take at old ++ digits) (drop end old)
