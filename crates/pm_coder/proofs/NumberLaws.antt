-- Numbers by how many bits they have, and their bits.
use Rattle.std.proofs.Common.{◌≡◌, ◌≢◌, ℕ, zero, suc, ◌+◌, ◌-◌, ◌*◌, ◌/◌, ◌%◌, ◌^◌, ◌<◌, ◌≤◌, inl}
use Rattle.std.proofs.Common.{inr, Bool, true, false, List, ◌∷◌, refl, arith}
use Rattle.std.proofs.lemmas.Bool.{false≢true}
use Rattle.std.proofs.lemmas.Nat.{pow_pos}
use Rattle.std.proofs.Math.Pow.{pow_mono}
use Rattle.std.proofs.Math.Nat.{two-pow-succ}
use Rattle.pm_coder.specs.declared.predictor.Predictor as predictor
use Rattle.pm_coder.specs.Intervals.{choice}
use Rattle.pm_coder.specs.Coders.{Coding, May, made, Can}
use Rattle.pm_coder.specs.Questions.{answer, question}
use Rattle.pm_coder.specs.Guesses.{told, Tells, Differ, halving_answers, rest_answers}
use Rattle.pm_coder.specs.Guesses.{bits_answers, number_answers}
use Rattle.pm_coder.specs.RoundTrips.{NumbersDiffer}
use Rattle.pm_coder.proofs.IntervalLaws.{at_least}
use Rattle.pm_coder.proofs.CoderLaws.{can-first, can-rest, writer-can, made-writing, one_choice}
use Rattle.pm_coder.proofs.UniformLaws.{le_yes, le_no, true≢false}
use Rattle.pm_coder.proofs.GuessLaws.{tells-more, told-more}
use Rattle.pm_coder.proofs.DifferLaws.{differ_on, differ_here}
use Rattle.pm_coder.proofs.DifferLaws.{halvings-differ}

-- The powers of two that come up.
pub power_most : (place : ℕ) → place ≤ 31 → 2 ^ place ≤ 2147483648
power_most place l = pow_mono l

pub power_next : (place : ℕ) → 2 ^ (place + 1) ≡ 2 * 2 ^ place
power_next place =
    let e : place + 1 ≡ suc place = omega arith in
    rw e (omega (arith, two-pow-succ place))

-- The answers, bit by bit.
bits-last : (set : ℕ) (contexts : List ℕ) (turns place n : ℕ) → turns ≡ 0
    → bits_answers set contexts turns place n ≡ rest_answers set contexts place n
unfolding bits_answers
bits-last set contexts zero place n e = refl
bits-last set contexts (suc turns) place n e = absurd (omega arith)

bits-more : (set : ℕ) (contexts : List ℕ) (turns t place n : ℕ) → turns ≡ t + 1
    → 2 ^ place ≤ n / 2
    → bits_answers set contexts turns place n
    ≡ answer (question set contexts place) true ∷ bits_answers set contexts t (place + 1) n
unfolding bits_answers
bits-more set contexts zero t place n e l = absurd (omega arith)
bits-more set contexts (suc turns) t place n e l =
    let s : t ≡ turns = omega arith in
    rw (le_yes (2 ^ place) (n / 2) l, s) refl

bits-end : (set : ℕ) (contexts : List ℕ) (turns t place n : ℕ) → turns ≡ t + 1
    → n / 2 < 2 ^ place
    → bits_answers set contexts turns place n
    ≡ answer (question set contexts place) false ∷ rest_answers set contexts place n
unfolding bits_answers
bits-end set contexts zero t place n e l = absurd (omega arith)
bits-end set contexts (suc turns) t place n e l = rw (le_no (2 ^ place) (n / 2) l) refl

-- What was told after the first bit.
pub last-tells : {P : Type 0} (k : predictor.Ghosts P) (p new : P) (from to : Coding) (set : ℕ)
    (contexts : List ℕ) (turns place n : ℕ) → turns ≡ 0
    → Tells k p from (rest_answers set contexts place n) new to
    → Tells k p from (bits_answers set contexts turns place n) new to
last-tells k p new from to set contexts turns place n e t =
    rw (bits-last set contexts turns place n e) t

pub more-tells : {P : Type 0} (k : predictor.Ghosts P) (p mid new : P) (from on to : Coding)
    (set : ℕ) (contexts : List ℕ) (turns t place n : ℕ) → turns ≡ t + 1 → 2 ^ (place + 1) ≤ n
    → May from (choice true (k.share p (question set contexts place)))
    → k.share p (question set contexts place) < 65536
    → on ≡ made from (choice true (k.share p (question set contexts place)))
    → mid ≡ k.learned p (question set contexts place) true
    → Tells k mid on (bits_answers set contexts t (place + 1) n) new to
    → Tells k p from (bits_answers set contexts turns place n) new to
more-tells k p mid new from on to set contexts turns t place n s l may fit e learned told =
    let half : 2 ^ place ≤ n / 2 = omega (arith, power_next place) in
    rw (bits-more set contexts turns t place n s half)
    (tells-more k p mid new from on to (question set contexts place) true _ may fit e learned
    told)

pub end-tells : {P : Type 0} (k : predictor.Ghosts P) (p mid new : P) (from on to : Coding)
    (set : ℕ) (contexts : List ℕ) (turns t place n : ℕ) → turns ≡ t + 1 → n / 2 < 2 ^ place
    → May from (choice false (k.share p (question set contexts place)))
    → k.share p (question set contexts place) < 65536
    → on ≡ made from (choice false (k.share p (question set contexts place)))
    → mid ≡ k.learned p (question set contexts place) false
    → Tells k mid on (rest_answers set contexts place n) new to
    → Tells k p from (bits_answers set contexts turns place n) new to
end-tells k p mid new from on to set contexts turns t place n s l may fit e learned told =
    rw (bits-end set contexts turns t place n s l)
    (tells-more k p mid new from on to (question set contexts place) false _ may fit e learned
    told)

-- The choices of a number are those after the first bit.
can-more : {P : Type 0} (k : predictor.Ghosts P) (p : P) (a : Coding) (set : ℕ)
    (contexts : List ℕ) (turns t place n : ℕ) → turns ≡ t + 1 → 2 ^ place ≤ n / 2
    → Can a (told k p (bits_answers set contexts turns place n))
    → Can a (choice true (k.share p (question set contexts place))
    ∷ told k (k.learned p (question set contexts place) true)
    (bits_answers set contexts t (place + 1) n))
can-more k p a set contexts turns t place n s l can =
    rw (bits-more set contexts turns t place n s l, told-more) at can

can-end : {P : Type 0} (k : predictor.Ghosts P) (p : P) (a : Coding) (set : ℕ)
    (contexts : List ℕ) (turns t place n : ℕ) → turns ≡ t + 1 → n / 2 < 2 ^ place
    → Can a (told k p (bits_answers set contexts turns place n))
    → Can a (choice false (k.share p (question set contexts place))
    ∷ told k (k.learned p (question set contexts place) false)
    (rest_answers set contexts place n))
can-end k p a set contexts turns t place n s l can =
    rw (bits-end set contexts turns t place n s l, told-more) at can

-- Where what follows can't be told, no number can.
pub last-untold : {P : Type 0} (k : predictor.Ghosts P) (p : P) (a : Coding) (set : ℕ)
    (contexts : List ℕ) (turns place n : ℕ) → turns ≡ 0
    → ¬ Can a (told k p (rest_answers set contexts place n))
    → ¬ Can a (told k p (bits_answers set contexts turns place n))
last-untold k p a set contexts turns place n e none can =
    none (rw (bits-last set contexts turns place n e) at can)

pub bit-untold : {P : Type 0} (k : predictor.Ghosts P) (p : P) (a : Coding) (set : ℕ)
    (contexts : List ℕ) (turns t place n : ℕ) → turns ≡ t + 1
    → ((bit : Bool) → ¬ May a (choice bit (k.share p (question set contexts place))))
    → ¬ Can a (told k p (bits_answers set contexts turns place n))
bit-untold k p a set contexts turns t place n s none can =
    elim (at_least (2 ^ place) (n / 2)) [
      | inl up ↦
          none true (can-first a _ _ (can-more k p a set contexts turns t place n s up can))
      | inr down ↦
          none false (can-first a _ _ (can-end k p a set contexts turns t place n s down can))
    ]

pub more-untold : {P : Type 0} (k : predictor.Ghosts P) (p mid : P) (a on : Coding) (set : ℕ)
    (contexts : List ℕ) (turns t place : ℕ) → turns ≡ t + 1 → place + 1 ≤ 31
    → May a (choice true (k.share p (question set contexts place)))
    → on ≡ made a (choice true (k.share p (question set contexts place)))
    → mid ≡ k.learned p (question set contexts place) true
    → ((n : ℕ) → 2 ^ (place + 1) ≤ n → n < 4294967296 → ¬ Can on
    (told k mid (bits_answers set contexts t (place + 1) n)))
    → (n : ℕ) → n < 4294967296
    → ¬ Can a (told k p (bits_answers set contexts turns place n))
more-untold k p mid a on set contexts turns t place s top may e l none n small can =
    elim (at_least (2 ^ place) (n / 2)) [
      | inl up ↦
          none n (omega (arith, power_next place)) small
          (rw (e, l) (can-rest a _ _ (can-more k p a set contexts turns t place n s up can)))
      | inr down ↦
          elim (one_choice a false true (k.share p (question set contexts place))
          (can-first a _ _ (can-end k p a set contexts turns t place n s down can)) may) [
            | inl writes ↦
                none (2 ^ (place + 1)) (omega arith) (omega (arith, power_most (place + 1) top))
                (writer-can _ on (rw e (made-writing a
                (choice true (k.share p (question set contexts place))) writes)))
            | inr same ↦ absurd (false≢true same)
          ]
    ]

pub end-untold : {P : Type 0} (k : predictor.Ghosts P) (p mid : P) (a on : Coding) (set : ℕ)
    (contexts : List ℕ) (turns t place : ℕ) → turns ≡ t + 1
    → May a (choice false (k.share p (question set contexts place)))
    → on ≡ made a (choice false (k.share p (question set contexts place)))
    → mid ≡ k.learned p (question set contexts place) false
    → ((n : ℕ) → 2 ^ place ≤ n → n / 2 < 2 ^ place → ¬ Can on
    (told k mid (rest_answers set contexts place n)))
    → (n : ℕ) → 2 ^ place ≤ n → ¬ Can a (told k p (bits_answers set contexts turns place n))
end-untold k p mid a on set contexts turns t place s may e l none n from can =
    elim (at_least (2 ^ place) (n / 2)) [
      | inl up ↦
          elim (one_choice a false true (k.share p (question set contexts place)) may
          (can-first a _ _ (can-more k p a set contexts turns t place n s up can))) [
            | inl writes ↦
                none (2 ^ place) (omega arith) (omega (arith, pow_pos place))
                (writer-can _ on (rw e (made-writing a
                (choice false (k.share p (question set contexts place))) writes)))
            | inr same ↦ absurd (false≢true same)
          ]
      | inr down ↦
          none n from down
          (rw (e, l) (can-rest a _ _ (can-end k p a set contexts turns t place n s down can)))
    ]

-- Two numbers differ.
rest-differ : (set : ℕ) (contexts : List ℕ) (place n m : ℕ) → 2 ^ place ≤ n → n / 2 < 2 ^ place
    → 2 ^ place ≤ m → m / 2 < 2 ^ place → n ≢ m
    → Differ (rest_answers set contexts place n) (rest_answers set contexts place m)
unfolding rest_answers
rest-differ set contexts place n m fn bn fm bm other =
    halvings-differ (set + 1) contexts (32 + place) (2 ^ place) (n - 2 ^ place) (m - 2 ^ place)
    (omega arith) (omega arith) (omega arith)

bits-differ : (set : ℕ) (contexts : List ℕ) (turns place n m : ℕ) → turns + place ≡ 31
    → 2 ^ place ≤ n → n < 4294967296 → 2 ^ place ≤ m → m < 4294967296 → n ≢ m
    → Differ (bits_answers set contexts turns place n) (bits_answers set contexts turns place m)
bits-differ set contexts zero place n m s fn bn fm bm other =
    let top : place ≡ 31 = omega arith in
    let power : 2147483648 ≤ 2 ^ place = rw top (omega arith) in
    rw (bits-last set contexts zero place n refl, bits-last set contexts zero place m refl)
    (rest-differ set contexts place n m fn (omega arith) fm (omega arith) other)
bits-differ set contexts (suc turns) place n m s fn bn fm bm other =
    let on : suc turns ≡ turns + 1 = omega arith in
    let next = power_next place in
    let q = question set contexts place in
    elim (at_least (2 ^ place) (n / 2)) [
      | inl up ↦
          elim (at_least (2 ^ place) (m / 2)) [
            | inl up' ↦
                rw (
                  bits-more set contexts (suc turns) turns place n on up,
                  bits-more set contexts (suc turns) turns place m on up',
                )
                (differ_on q true _ _
                (bits-differ set contexts turns (place + 1) n m (omega arith) (omega arith) bn
                (omega arith) bm other))
            | inr down' ↦
                rw (
                  bits-more set contexts (suc turns) turns place n on up,
                  bits-end set contexts (suc turns) turns place m on down',
                )
                (differ_here q true false _ _ true≢false)
          ]
      | inr down ↦
          elim (at_least (2 ^ place) (m / 2)) [
            | inl up' ↦
                rw (
                  bits-end set contexts (suc turns) turns place n on down,
                  bits-more set contexts (suc turns) turns place m on up',
                )
                (differ_here q false true _ _ false≢true)
            | inr down' ↦
                rw (
                  bits-end set contexts (suc turns) turns place n on down,
                  bits-end set contexts (suc turns) turns place m on down',
                )
                (differ_on q false _ _
                (rest-differ set contexts place n m fn down fm down' other))
          ]
    ]

pub numbers-differ : NumbersDiffer
unfolding number_answers
numbers-differ set contexts n m ln lm other =
    bits-differ set contexts 31 0 (n + 1) (m + 1) refl (omega arith) (omega arith) (omega arith)
    (omega arith) (omega arith)

-- A power by a shift.
pub power_shifted : (place : ℕ) → place ≤ 31 → 1 * 2 ^ place % 4294967296 ≡ 2 ^ place
power_shifted place l = omega (arith, power_most place l)

-- The bits below the top one.
pub rest-tells : {P : Type 0} (k : predictor.Ghosts P) (p new : P) (from to : Coding) (set : ℕ)
    (contexts : List ℕ) (place power n : ℕ) → power ≡ 2 ^ place
    → Tells k p from (halving_answers (set + 1) contexts (32 + place) power n) new to
    → Tells k p from (rest_answers set contexts place (power + n)) new to
unfolding rest_answers
rest-tells k p new from to set contexts place power n e t =
    let same : (power + n) - 2 ^ place ≡ n = omega arith in
    rw same (rw e at t)

pub rest-untold : {P : Type 0} (k : predictor.Ghosts P) (p : P) (a : Coding) (set : ℕ)
    (contexts : List ℕ) (place power : ℕ) → power ≡ 2 ^ place
    → ((n : ℕ) → n < power
    → ¬ Can a (told k p (halving_answers (set + 1) contexts (32 + place) power n)))
    → (n : ℕ) → 2 ^ place ≤ n → n / 2 < 2 ^ place
    → ¬ Can a (told k p (rest_answers set contexts place n))
unfolding rest_answers
rest-untold k p a set contexts place power e none n from below can =
    none (n - 2 ^ place) (omega arith) (rw e can)

-- The whole number.
pub number-tells : {P : Type 0} (k : predictor.Ghosts P) (p new : P) (from to : Coding) (set : ℕ)
    (contexts : List ℕ) (n : ℕ) → 1 ≤ n
    → Tells k p from (bits_answers set contexts 31 0 n) new to
    → Tells k p from (number_answers set contexts (n - 1)) new to
unfolding number_answers
number-tells k p new from to set contexts n l t =
    let same : (n - 1) + 1 ≡ n = omega arith in
    rw same t

pub number-untold : {P : Type 0} (k : predictor.Ghosts P) (p : P) (a : Coding) (set : ℕ)
    (contexts : List ℕ)
    → ((n : ℕ) → 1 ≤ n → n < 4294967296 → ¬ Can a (told k p (bits_answers set contexts 31 0 n)))
    → (n : ℕ) → n < 4294967295 → ¬ Can a (told k p (number_answers set contexts n))
unfolding number_answers
number-untold k p a set contexts none n small can = none (n + 1) (omega arith) (omega arith) can
