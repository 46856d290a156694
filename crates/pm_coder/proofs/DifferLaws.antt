-- Answers that differ.
use Rattle.std.proofs.Common.{◌≢◌, ℕ, zero, suc, ◌-◌, ◌/◌, ◌<◌, ◌≤◌, inl, inr}
use Rattle.std.proofs.Common.{Bool, true, false, List, [], ◌∷◌, refl, sym, ap, arith}
use Rattle.std.proofs.lemmas.Bool.{false≢true}
use Rattle.pm_coder.specs.declared.predictor.Predictor as predictor
use Rattle.pm_coder.specs.Coders.{Part}
use Rattle.pm_coder.specs.Questions.{Question, Answer, answer, question}
use Rattle.pm_coder.specs.Guesses.{told, Differ, upper_place, lower_place}
use Rattle.pm_coder.specs.Guesses.{halving_answers}
use Rattle.pm_coder.specs.RoundTrips.{GuessesPart, HalvingsDiffer}
use Rattle.pm_coder.proofs.IntervalLaws.{at_least}
use Rattle.pm_coder.proofs.UniformLaws.{true≢false}
use Rattle.pm_coder.proofs.GuessLaws.{halving-upper, halving-lower}

-- Where answers differ, their choices part.
pub guesses-part : {P : Type 0} (k : predictor.Ghosts P) (p : P) → GuessesPart k p
unfolding Differ told Part
guesses-part k p [] ys d = absurd d
guesses-part k p (x ∷ xs) [] d = absurd d
guesses-part k p (x ∷ xs) (y ∷ ys) d =
    let share = ap (λ (q : Question). k.share p q) d.0 in
    elim (d.1) [
      | inl other ↦ (share, inl other)
      | inr on ↦ (
        share,
        inr (
          on.0,
          rw (sym d.0, sym on.0)
              (guesses-part k (k.learned p x.asked x.bit) xs ys on.1),
        ),
      )
    ]

pub differ_on : (q : Question) (bit : Bool) (xs ys : List Answer) → Differ xs ys
    → Differ (answer q bit ∷ xs) (answer q bit ∷ ys)
unfolding Differ
differ_on q bit xs ys d = (refl, inr (refl, d))

pub differ_here : (q : Question) (x y : Bool) (xs ys : List Answer) → x ≢ y
    → Differ (answer q x ∷ xs) (answer q y ∷ ys)
unfolding Differ
differ_here q x y xs ys other = (refl, inl other)

differ_within : (set : ℕ) (contexts : List ℕ) (turns place bound n m : ℕ) → bound ≤ turns
    → n < bound → m < bound → n ≢ m
    → Differ (halving_answers set contexts place bound n)
    (halving_answers set contexts place bound m)
differ_within set contexts zero place bound n m l ln lm other = absurd (omega arith)
differ_within set contexts (suc turns) place bound n m l ln lm other =
    let wide : 1 < bound = omega arith in
    let half = bound / 2 in
    let q = question set contexts place in
    elim (at_least half n) [
      | inl up ↦
          elim (at_least half m) [
            | inl up' ↦
                rw (
                  halving-upper set contexts place bound n wide up,
                  halving-upper set contexts place bound m wide up',
                )
                (differ_on q true _ _
                (differ_within set contexts turns (upper_place place) (bound - half) (n - half)
                (m - half) (omega arith) (omega arith) (omega arith) (omega arith)))
            | inr down' ↦
                rw (
                  halving-upper set contexts place bound n wide up,
                  halving-lower set contexts place bound m wide down',
                )
                (differ_here q true false _ _ true≢false)
          ]
      | inr down ↦
          elim (at_least half m) [
            | inl up' ↦
                rw (
                  halving-lower set contexts place bound n wide down,
                  halving-upper set contexts place bound m wide up',
                )
                (differ_here q false true _ _ false≢true)
            | inr down' ↦
                rw (
                  halving-lower set contexts place bound n wide down,
                  halving-lower set contexts place bound m wide down',
                )
                (differ_on q false _ _
                (differ_within set contexts turns (lower_place place) half n m (omega arith)
                down down' other))
          ]
    ]

pub halvings-differ : HalvingsDiffer
halvings-differ set contexts place bound n m ln lm other =
    differ_within set contexts bound place bound n m (omega arith) ln lm other
