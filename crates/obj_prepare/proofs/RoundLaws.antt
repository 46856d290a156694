-- Laws of digits that are cut, and of zeros after them.
use Rattle.std.proofs.Common.{◌≡◌, ℕ, zero, suc, ◌+◌, ◌-◌, ◌*◌, ◌^◌, ◌<◌, ◌≤◌, min, Bool, true}
use Rattle.std.proofs.lemmas.Grind.{common_steps}
use Rattle.std.proofs.Common.{false, nat_le, nat_lt, List, [], ◌∷◌, length, take, drop}
use Rattle.std.proofs.Common.{get_or, refl, ◌∙◌, ap, subst, arith, if◌then◌else◌}
use Rattle.std.proofs.Math.Nat.{pow-suc, one-le-pow, mul-le-mul_right, mul-le-mul_left}
use Rattle.std.proofs.Math.Seq.{drop-cons}
use Rattle.std.proofs.lemmas.Bool.{and_parts, leb-true, leb-false, ltb-true, ltb-false}
use Rattle.std.proofs.lemmas.List.{take-append-drop, take_all, length-drop}
use Rattle.pm_io.specs.Digits.{is_digit, are_digits, value}
use Rattle.obj_prepare.specs.Numbers.{nearest, shifted}
use Rattle.obj_prepare.proofs.DigitLaws.{value_append, value_after, value_below, nearest_up}
use Rattle.obj_prepare.proofs.DigitLaws.{nearest_down}

-- A product of a number that was cut down to the limit.
zeros_cases : (most n q : ℕ) (t : Bool) → nat_lt most n ≡ t → 1 ≤ q
    → min (min n most * q) most ≡ min (n * q) most
zeros_cases most n q true lt l =
    let past : most < n = ltb-true _ _ lt in
    let same : min n most ≡ most = omega (arith, past) in
    let first : most * 1 ≤ most * q = mul-le-mul_left most l in
    let second : most * q ≤ n * q = mul-le-mul_right q (omega (arith, past)) in
    rw same (omega (arith, first, second))
zeros_cases most n q false le l = grind (arith, common_steps, ltb-false)

pub zeros_cut : (most n q : ℕ) → 1 ≤ q → min (min n most * q) most ≡ min (n * q) most
zeros_cut most n q l = zeros_cases most n q (nat_lt most n) refl l

-- One zero more was put after a number.
pub zeros_next : (n next zeros turn start : ℕ) → turn < zeros → next ≡ min (10 * n) (10 ^ 32 + 1)
    → min (n * 10 ^ (zeros - turn)) (10 ^ 32 + 1) ≡ start
    → min (next * 10 ^ (zeros - (turn + 1))) (10 ^ 32 + 1) ≡ start
zeros_next n next zeros turn start lt is so =
    let k : zeros - turn ≡ suc (zeros - (turn + 1)) = omega (arith, lt) in
    let q = 10 ^ (zeros - (turn + 1)) in
    let product : 10 * n * 10 ^ (zeros - (turn + 1)) ≡ n * 10 ^ (zeros - turn) =
    rw (k, pow-suc 10 (zeros - (turn + 1))) (grind arith) in
    rw is (zeros_cut (10 ^ 32 + 1) (10 * n) (10 ^ (zeros - (turn + 1)))
    (one-le-pow (zeros - (turn + 1)) 10 (omega arith))
    ∙ ap (λ (m : ℕ). min m (10 ^ 32 + 1)) product ∙ so)

-- A number past the limit is past it with any zeros after it.
pub zeros_past : (zeros start : ℕ) → min ((10 ^ 32 + 1) * 10 ^ zeros) (10 ^ 32 + 1) ≡ start
    → 10 ^ 32 + 1 ≡ start
zeros_past zeros start so =
    let some : 1 ≤ 10 ^ zeros = one-le-pow zeros 10 (omega arith) in
    omega (arith, so, some)

pub digits_drop : (n : ℕ) (ds : List ℕ) → are_digits ds ≡ true → are_digits (drop n ds) ≡ true
digits_drop zero ds all = all
digits_drop (suc n) [] all = refl
digits_drop (suc n) (b ∷ bs) all = digits_drop n bs (and_parts (is_digit b) (are_digits bs) all).1

digit_most : (n : ℕ) (ds : List ℕ) → are_digits ds ≡ true → get_or ds n 48 ≤ 57
digit_most n [] all = omega arith
digit_most zero (b ∷ bs) all =
    leb-true _ _
    (and_parts (nat_le 48 b) (nat_le b 57) (and_parts (is_digit b) (are_digits bs) all).0).1
digit_most (suc n) (b ∷ bs) all = digit_most n bs (and_parts (is_digit b) (are_digits bs) all).1

get_past : (n : ℕ) (ds : List ℕ) → length ds ≤ n → get_or ds n 48 ≡ 48
get_past n [] le = refl
get_past zero (b ∷ bs) le = absurd (omega (arith, le))
get_past (suc n) (b ∷ bs) le = get_past n bs (omega (arith, le))

-- The digits before a cut, the digit at it, and the digits after it.
cut_value : (k : ℕ) (ds : List ℕ) → k < length ds
    → value 0 ds
    ≡ value 0 (take k ds) * (10 ^ (length ds - suc k) * 10) + ((get_or ds k 48 - 48) * 10 ^
    (length ds - suc k) + value 0 (drop (suc k) ds))
cut_value k ds lt =
    grind (
      arith,
      common_steps,
      drop-cons ds k 48 lt,
      get_or ds k 48,
      length-drop (suc k) ds,
      take-append-drop k ds,
      value_after (10 * value 0 (take k ds) + (get_or ds k 48 - 48)) (drop (suc k) ds),
      value_append 0 (take k ds) (drop k ds),
    )

-- The digit at a cut alone decides how the number before it is rounded.
cut_nearest : (k : ℕ) (ds : List ℕ) (t : Bool) → are_digits ds ≡ true → k < length ds
    → nat_le 53 (get_or ds k 48) ≡ t
    → nearest (value 0 ds) (10 ^ (length ds - suc k) * 10) ≡ (if t then value 0 (take k ds) + 1
    else value 0 (take k ds))
cut_nearest k ds true all lt is =
    let least : 53 ≤ get_or ds k 48 = leb-true _ _ is in
    let most = digit_most k ds all in
    let len : length (drop (suc k) ds) ≡ length ds - suc k = length-drop (suc k) ds in
    let below : value 0 (drop (suc k) ds) < 10 ^ (length ds - suc k) =
    subst (λ (l : ℕ). value 0 (drop (suc k) ds) < 10 ^ l) len
    (value_below (drop (suc k) ds) (digits_drop (suc k) ds all)) in
    rw (cut_value k ds lt)
    (nearest_up (value 0 (take k ds)) (get_or ds k 48 - 48) (value 0 (drop (suc k) ds))
    (10 ^ (length ds - suc k)) (one-le-pow (length ds - suc k) 10 (omega arith)) below
    (omega (arith, least)) (omega (arith, most)))
cut_nearest k ds false all lt is =
    let most : get_or ds k 48 < 53 = leb-false _ _ is in
    let len : length (drop (suc k) ds) ≡ length ds - suc k = length-drop (suc k) ds in
    let below : value 0 (drop (suc k) ds) < 10 ^ (length ds - suc k) =
    subst (λ (l : ℕ). value 0 (drop (suc k) ds) < 10 ^ l) len
    (value_below (drop (suc k) ds) (digits_drop (suc k) ds all)) in
    rw (cut_value k ds lt)
    (nearest_down (value 0 (take k ds)) (get_or ds k 48 - 48) (value 0 (drop (suc k) ds))
    (10 ^ (length ds - suc k)) (one-le-pow (length ds - suc k) 10 (omega arith)) below
    (omega (arith, most)))

-- So many digits, with zeros after them, and rounded.
shifted_cases : (ds : List ℕ) (kept up down : ℕ) (t : Bool) (less : Bool) → are_digits ds ≡ true
    → kept + down ≡ length ds + up
    → nat_le 53 (get_or ds kept 48) ≡ t → nat_lt up down ≡ less
    → (if less then nearest (value 0 ds) (10 ^ (down - up)) else value 0 ds * 10 ^ (up - down))
    ≡ (if t then value 0 (take kept ds) * 10 ^ (kept - length ds) + 1
    else value 0 (take kept ds) * 10 ^ (kept - length ds))
shifted_cases ds kept up down t true all so is lt =
    let l : up < down = ltb-true _ _ lt in
    let k : kept < length ds = omega (arith, so, l) in
    let none : kept - length ds ≡ 0 = omega (arith, k) in
    let places : down - up ≡ suc (length ds - suc kept) = omega (arith, so, l) in
    let one : value 0 (take kept ds) * 10 ^ 0 ≡ value 0 (take kept ds) = omega arith in
    rw (none, places, pow-suc 10 (length ds - suc kept), one) (cut_nearest kept ds t all k is)
shifted_cases ds kept up down true false all so is lt =
    grind (arith, common_steps, get_or, get_past, leb-true, ltb-false)
shifted_cases ds kept up down false false all so is lt =
    grind (arith, common_steps, ltb-false, take_all)

pub shifted_is : (ds : List ℕ) (kept up down : ℕ) (t : Bool) → are_digits ds ≡ true
    → kept + down ≡ length ds + up → nat_le 53 (get_or ds kept 48) ≡ t
    → shifted (value 0 ds) up down ≡ (if t then value 0 (take kept ds) * 10 ^ (kept - length ds) + 1
    else value 0 (take kept ds) * 10 ^ (kept - length ds))
unfolding shifted
shifted_is ds kept up down t all so is =
    shifted_cases ds kept up down t (nat_lt up down) all so is refl
