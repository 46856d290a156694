-- The laws of code bytes, for any function that gives the shares.
use Rattle.std.proofs.Common.{◌≡◌, ℕ, zero, suc, ◌+◌, ◌-◌, ◌*◌, ◌<◌, ◌≤◌, Bool, true, false, List}
use Rattle.std.proofs.Common.{[]}
use Rattle.std.proofs.Common.{◌∷◌, ◌++◌, length, take, drop, refl, sym, ◌∙◌, ap, arith}
use Rattle.std.proofs.Common.{append_assoc}
use Rattle.std.proofs.Common.{length-append, nat_le, Some, None, Option, inl, inr, ◌⊎◌}
use Rattle.std.specs.Int.{w32, to_be_bytes}
use Rattle.std.proofs.lemmas.List.{append-nil, take-append-drop, length-drop, drop-append-le}
use Rattle.std.proofs.lemmas.Bool.Decides.{nat_tests}
use Rattle.pm_coder.specs.declared.interval.Interval.{Interval}
use Rattle.pm_coder.specs.Intervals.{Choice, choice, whole, narrowed, choice_bytes, after}
use Rattle.pm_coder.specs.Coding.{AreFit, Progress, code_from, chosen, next_choice, passed, IsRead}
use Rattle.pm_coder.specs.Laws.{Shares, AreShares, choices_after, Decoded, decoded_after, is_enough}
use Rattle.pm_coder.specs.Laws.{CodesAreReadBack, CutCodesAreRefused, CodesAreShort}
use Rattle.pm_coder.specs.Laws.{decoded, code}
use Rattle.pm_coder.proofs.IntervalLaws.{IsWide, after-wide, length-same_bytes}
use Rattle.pm_coder.proofs.IntervalLaws.{apart_cases, at_least}
use Rattle.pm_coder.proofs.HoldLaws.{window-append}
use Rattle.pm_coder.proofs.CodeLaws.{at_code, first-is_read, first-passed}

choices_after-fit : (share : Shares) → AreShares share → (past bits : List Bool)
    → AreFit (choices_after share past bits)
unfolding choices_after
choices_after-fit share s past [] = tt
choices_after-fit share s past (b ∷ bits) =
    (s past, choices_after-fit share s (past ++ b ∷ []) bits)

-- A choice that is read.
decoded_after-read : (share : Shares) (n : ℕ) (past : List Bool) (p : Progress) (b : Bool)
    → IsRead p (choice b (share past))
    → decoded_after share (suc n) past p
    ≡ decoded_after share n (past ++ b ∷ [])
    (passed p (choice b (share past)))
unfolding decoded_after
decoded_after-read share n past p b r =
    let said : chosen p (share past) ≡ b = sym r.said in
    let long : is_enough p (share past) ≡ true = rw said (grind (arith, nat_tests, r.enough)) in
    rw (long, said) refl

read_back_after : (share : Shares) → AreShares share → (bits past : List Bool) (i : Interval)
    (more : List ℕ) → IsWide i
    → decoded_after share (length bits) past (at_code i (choices_after share past bits) more)
    ≡ Some (record { bits = past ++ bits; left = length more })
unfolding decoded_after choices_after code_from
read_back_after share s [] past i more w =
    let left : length (to_be_bytes w32 i.low ++ more) - 4 ≡ length more = omega arith in
    rw (left, append-nil past) refl
read_back_after share s (b ∷ bits) past i more w =
    let c : Choice = choice b (share past) in
    let cs = choices_after share (past ++ b ∷ []) bits in
    let fit : AreFit (c ∷ cs) = (s past, choices_after-fit share s (past ++ b ∷ []) bits) in
    let step = decoded_after-read share (length bits) past (at_code i (c ∷ cs) more) b
    (first-is_read c cs i more w fit) in
    let rest = read_back_after share s bits (past ++ b ∷ []) (after i c) more
    (after-wide i c w (s past)) in
    let joined = append_assoc past (b ∷ []) bits in
    step ∙ rw (first-passed c cs i more) (rest ∙ rw joined refl)

pub whole-wide : IsWide whole
whole-wide = record { wide = omega arith; most = omega arith }

-- The test for four bytes.
decoded-long : (share : Shares) (n : ℕ) (bytes : List ℕ) → 4 ≤ length bytes
    → decoded share n bytes ≡ decoded_after share n [] (record { interval = whole; bytes = bytes })
decoded-long share n bytes l =
    let long : nat_le 4 (length bytes) ≡ true = grind (arith, nat_tests) in
    rw long refl

decoded-short : (share : Shares) (n : ℕ) (bytes : List ℕ) → length bytes < 4
    → decoded share n bytes ≡ None
decoded-short share n bytes l =
    let long : nat_le 4 (length bytes) ≡ false = grind (arith, nat_tests) in
    rw long refl

code_from-long : (i : Interval) (cs : List Choice) → 4 ≤ length (code_from i cs)
unfolding code_from
code_from-long i [] = omega arith
code_from-long i (c ∷ cs) =
    rw (length-append (choice_bytes i c) (code_from (after i c) cs))
    (omega (arith, code_from-long (after i c) cs))

pub codes-are_read_back : CodesAreReadBack
codes-are_read_back share s bits more =
    let cs = choices_after share [] bits in
    let long : 4 ≤ length (code_from whole cs ++ more) =
    rw (length-append (code_from whole cs) more) (omega (arith, code_from-long whole cs)) in
    decoded-long share (length bits) _ long ∙ read_back_after share s bits [] whole more whole-wide

-- More bytes don't change what was read.
with_more : Progress → List ℕ → Progress
with_more p more = record { interval = p.interval; bytes = p.bytes ++ more }

is_enough-long : (p : Progress) (share : ℕ) → is_enough p share ≡ true
    → length (choice_bytes p.interval (next_choice p share)) + 4 ≤ length p.bytes
is_enough-long p share e = grind (arith, nat_tests)

some_left : (a b : Decoded) → Some a ≡ Some b → a ≡ b
some_left a b e = cc

decoded_after-more : (share : Shares) (n : ℕ) (past : List Bool) (p : Progress) (more : List ℕ)
    (r : Decoded) → 4 ≤ length p.bytes → decoded_after share n past p ≡ Some r
    → decoded_after share n past (with_more p more)
    ≡ Some (record { bits = r.bits; left = r.left + length more })
unfolding decoded_after with_more
decoded_after-more share zero past p more r l e =
    let same = some_left (record { bits = past; left = length p.bytes - 4 }) r e in
    let bits : r.bits ≡ past = sym (ap (λ (d : Decoded). d.bits) same) in
    let left : r.left ≡ length p.bytes - 4 = sym (ap (λ (d : Decoded). d.left) same) in
    let all : length (p.bytes ++ more) - 4 ≡ r.left + length more =
    omega (arith, length-append p.bytes more, left) in
    rw (all, bits) refl
decoded_after-more share (suc n) past p more r l e =
    elim (apart_cases (is_enough p (share past))) [
      | inl h ↦
          let c = next_choice p (share past) in
          let long = is_enough-long p (share past) h in
          let same = window-append p.bytes more l in
          let read : IsRead (with_more p more) c = record {
            said = rw same refl;
            enough = rw (length-append p.bytes more) (omega (arith, long));
          } in
          let step = decoded_after-read share n past (with_more p more) c.bit read in
          let k = length (choice_bytes p.interval c) in
          let taken = drop-append-le k p.bytes more (omega (arith, long)) in
          let after_it : decoded_after share n (past ++ c.bit ∷ []) (passed p c) ≡ Some r =
          rw h at e in
          let left : 4 ≤ length (passed p c).bytes =
          rw (length-drop k p.bytes) (omega (arith, long)) in
          let on = past ++ c.bit ∷ [] in
          let rest = decoded_after-more share n on (passed p c) more r left after_it
          in step ∙ rw taken rest
      | inr h ↦ let none : None ≡ Some r = rw h at e in cc none
    ]

option_cases : (o : Option Decoded) → (o ≡ None) ⊎ ((r : Decoded) × (o ≡ Some r))
option_cases None = inl refl
option_cases (Some r) = inr (r, refl)

cut_refused : (share : Shares) → AreShares share → (bits : List Bool) (k : ℕ)
    → k < length (code share bits) → 4 ≤ length (take k (code share bits))
    → decoded share (length bits) (take k (code share bits)) ≡ None
unfolding with_more
cut_refused share s bits k less long =
    let bytes = code share bits in
    let n = length bits in
    elim (option_cases (decoded share n (take k bytes))) [
      | inl none ↦ none
      | inr some ↦
          let r = some.0 in
          let begun = sym (decoded-long share n (take k bytes) long) ∙ some.1 in
          let p : Progress = record { interval = whole; bytes = take k bytes } in
          let more = decoded_after-more share n [] p (drop k bytes) r long begun in
          let joined = take-append-drop k bytes in
          let read = read_back_after share s bits [] whole [] whole-wide in
          let whole_code : decoded_after share n [] (record { interval = whole; bytes = bytes })
          ≡ Some (record { bits = r.bits; left = r.left + length (drop k bytes) }) =
          rw joined at more in
          let same_code : decoded_after share n [] (record { interval = whole; bytes = bytes })
          ≡ Some (record { bits = bits; left = 0 }) =
          rw (append-nil bytes) at read in
          let same = some_left _ _ (sym same_code ∙ whole_code) in
          let left : 0 ≡ r.left + length (drop k bytes) = ap (λ (d : Decoded). d.left) same in
          absurd (omega (arith, left, length-drop k bytes, less))
    ]

pub cut_codes-are_refused : CutCodesAreRefused
cut_codes-are_refused share s bits k less =
    elim (at_least 4 (length (take k (code share bits)))) [
      | inl long ↦ cut_refused share s bits k less long
      | inr short ↦ decoded-short share (length bits) (take k (code share bits)) short
    ]

code_after-short : (share : Shares) (bits past : List Bool) (i : Interval)
    → length (code_from i (choices_after share past bits)) ≤ 4 * length bits + 4
unfolding code_from choices_after
code_after-short share [] past i = omega arith
code_after-short share (b ∷ bits) past i =
    let c : Choice = choice b (share past) in
    let cs = choices_after share (past ++ b ∷ []) bits in
    let few = length-same_bytes 4 (narrowed i c) in
    let rest = code_after-short share bits (past ++ b ∷ []) (after i c) in
    rw (length-append (choice_bytes i c) (code_from (after i c) cs)) (omega arith)

pub codes-are_short : CodesAreShort
codes-are_short share bits = code_after-short share bits [] whole
