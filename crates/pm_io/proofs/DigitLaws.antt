-- Laws of digits.
use Rattle.std.proofs.Common.{◌≡◌, ℕ, suc, ◌+◌, ◌-◌, ◌*◌, ◌<◌, ◌≤◌, min, Bool, true, false, ◌&&◌}
use Rattle.std.proofs.Common.{nat_le, List, [], ◌∷◌, length, get_or, drop, Some, None}
use Rattle.std.proofs.Common.{if◌then◌else◌, refl, sym, ◌∙◌, ap, arith}
use Rattle.std.proofs.Math.Seq.{drop-cons}
use Rattle.std.proofs.lemmas.Bool.{leb-true}
use Rattle.std.proofs.lemmas.Option.{same_Some}
use Rattle.pm_io.specs.Digits.{is_unsigned, value, unsigned_of}

-- digits after a number that was cut down to the limit
pub value_cut : (n most : ℕ) (digits : List ℕ) → min (value (min n most) digits) most
    ≡ min (value n digits) most
value_cut n most [] = omega arith
value_cut n most (b ∷ bs) =
    let same : min (10 * min n most + (b - 48)) most ≡ min (10 * n + (b - 48)) most = omega arith in
    sym (value_cut (10 * min n most + (b - 48)) most bs)
    ∙ ap (λ (m : ℕ). min (value m bs) most) same ∙ value_cut (10 * n + (b - 48)) most bs

-- one digit more was read
pub value_step : (digits : List ℕ) (i n next start most : ℕ) → i < length digits
    → next ≡ min (10 * n + (get_or digits i 0 - 48)) most
    → min (value n (drop i digits)) most ≡ start → min (value next (drop (i + 1) digits)) most
    ≡ start
value_step digits i n next start most lt is so =
    let k : i + 1 ≡ suc i = omega arith in
    rw is (rw k (value_cut (10 * n + (get_or digits i 0 - 48)) most (drop (suc i) digits)
    ∙ ap (λ (l : List ℕ). min (value n l) most) (sym (drop-cons digits i 0 lt)) ∙ so))

-- what was read is at most the limit
within : (a c : Bool) (v most n : ℕ) → nat_le v most ≡ c → (if a && c then Some v else None)
    ≡ Some n → n ≤ most
within true true v most n le is = omega (arith, leb-true _ _ le, same_Some v n is)
within true false v most n le is = absurd cc
within false c v most n le is = absurd cc

pub unsigned_most : (most n : ℕ) (text : List ℕ) → unsigned_of most text ≡ Some n → n ≤ most
unfolding unsigned_of
unsigned_most most n text is =
    within (is_unsigned text) (nat_le (value 0 text) most) (value 0 text) most n refl is
