-- Laws of text that is put together.
use Rattle.std.proofs.Common.{◌≡◌, ℕ, suc, ◌+◌, ◌-◌, ◌*◌, ◌/◌, ◌%◌, ◌^◌, ◌<◌, ◌≤◌, List, [], ◌∷◌}
use Rattle.std.proofs.lemmas.Grind.{common_steps}
use Rattle.std.proofs.Common.{◌++◌, append_assoc, sym, ◌∙◌, ap, arith}
use Rattle.std.proofs.Math.Nat.{pow-suc, one-le-pow, div-le_self}
use Rattle.std.proofs.lemmas.List.{append-nil}
use Rattle.pm_base.specs.Canonical.{last_digits}

pub nothing_added : (text : List ℕ) → text ≡ text ++ []
nothing_added text = sym (append-nil text)

pub power_some : (power : ℕ) → 0 < 10 ^ power
power_some power = one-le-pow power 10 (omega arith)

pub tenth_is : (power unit : ℕ) → unit ≡ 10 ^ (power + 1) → unit / 10 ≡ 10 ^ power
tenth_is power unit is = grind (arith, common_steps, pow-suc)

-- A number above 0 is one more than the number before it.
pub whole_power : (left unit : ℕ) → 0 < left → unit ≡ 10 ^ left → unit ≡ 10 ^ (left - 1 + 1)
whole_power left unit some is = is ∙ ap (λ n. 10 ^ n) (omega (arith, some))

pub digit_added : (text whole : List ℕ) (left n unit : ℕ) → 0 < left → unit ≡ 10 ^ (left - 1)
    → text ++ last_digits left n ≡ whole → (text ++ (48 + n / unit % 10) ∷ [])
    ++ last_digits (left - 1) n ≡ whole
digit_added text whole left n unit some is was =
    let k : left ≡ suc (left - 1) = omega (arith, some) in
    append_assoc text ((48 + n / unit % 10) ∷ []) (last_digits (left - 1) n)
    ∙ ap (λ u. text ++ (48 + n / u % 10) ∷ last_digits (left - 1) n) is
    ∙ ap (λ (m : ℕ). text ++ last_digits m n) (sym k) ∙ was

-- Pieces that are added one after the other.

pub added_two : (t0 t1 t2 a b : List ℕ) → t1 ≡ t0 ++ a → t2 ≡ t1 ++ b → t2 ≡ t0 ++ (a ++ b)
added_two t0 t1 t2 a b one two = two ∙ ap (λ t. t ++ b) one ∙ append_assoc t0 a b

pub added_three : (t0 t1 t2 t3 a b c : List ℕ) → t1 ≡ t0 ++ a → t2 ≡ t1 ++ b → t3 ≡ t2 ++ c
    → t3 ≡ t0 ++ ((a ++ b) ++ c)
added_three t0 t1 t2 t3 a b c one two three =
    added_two t0 t2 t3 (a ++ b) c (added_two t0 t1 t2 a b one two) three

pub added_four : (t0 t1 t2 t3 t4 a b c d : List ℕ) → t1 ≡ t0 ++ a → t2 ≡ t1 ++ b → t3 ≡ t2 ++ c
    → t4 ≡ t3 ++ d → t4 ≡ t0 ++ (((a ++ b) ++ c) ++ d)
added_four t0 t1 t2 t3 t4 a b c d one two three four =
    added_two t0 t3 t4 ((a ++ b) ++ c) d (added_three t0 t1 t2 t3 a b c one two three) four

pub added_five : (t0 t1 t2 t3 t4 t5 a b c d e : List ℕ) → t1 ≡ t0 ++ a → t2 ≡ t1 ++ b → t3 ≡ t2 ++ c
    → t4 ≡ t3 ++ d → t5 ≡ t4 ++ e → t5 ≡ t0 ++ ((((a ++ b) ++ c) ++ d) ++ e)
added_five t0 t1 t2 t3 t4 t5 a b c d e one two three four five =
    added_two t0 t4 t5 (((a ++ b) ++ c) ++ d) e
    (added_four t0 t1 t2 t3 t4 a b c d one two three four) five

pub added_six : (t0 t1 t2 t3 t4 t5 t6 a b c d e f : List ℕ) → t1 ≡ t0 ++ a → t2 ≡ t1 ++ b
    → t3 ≡ t2 ++ c → t4 ≡ t3 ++ d → t5 ≡ t4 ++ e → t6 ≡ t5 ++ f
    → t6 ≡ t0 ++ (((((a ++ b) ++ c) ++ d) ++ e) ++ f)
added_six t0 t1 t2 t3 t4 t5 t6 a b c d e f one two three four five six =
    added_two t0 t5 t6 ((((a ++ b) ++ c) ++ d) ++ e) f
    (added_five t0 t1 t2 t3 t4 t5 a b c d e one two three four five) six

pub added_seven : (t0 t1 t2 t3 t4 t5 t6 t7 a b c d e f g : List ℕ) → t1 ≡ t0 ++ a → t2 ≡ t1 ++ b
    → t3 ≡ t2 ++ c → t4 ≡ t3 ++ d → t5 ≡ t4 ++ e → t6 ≡ t5 ++ f → t7 ≡ t6 ++ g
    → t7 ≡ t0 ++ ((((((a ++ b) ++ c) ++ d) ++ e) ++ f) ++ g)
added_seven t0 t1 t2 t3 t4 t5 t6 t7 a b c d e f g one two three four five six seven =
    added_two t0 t6 t7 (((((a ++ b) ++ c) ++ d) ++ e) ++ f) g
    (added_six t0 t1 t2 t3 t4 t5 t6 a b c d e f one two three four five six) seven

-- A part of a number isn't greater than it.
pub few_parts : (n parts : ℕ) → n ≤ 2 * 10 ^ 32 → parts ≤ 131068
    → (n + parts - 1) / parts ≤ 3 * 10 ^ 32
few_parts n parts most few = omega (arith, div-le_self (n + parts - 1) parts, most, few)
