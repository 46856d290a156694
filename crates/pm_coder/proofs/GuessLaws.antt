-- Values by answers.
use Rattle.std.proofs.Common.{◌≡◌, ◌≢◌, ℕ, zero, suc, ◌+◌, ◌-◌, ◌/◌, ◌<◌, ◌≤◌, inl, inr}
use Rattle.std.proofs.Common.{Bool, true, false, List, [], ◌∷◌, refl, sym, ◌∙◌, ap, arith}
use Rattle.std.proofs.lemmas.Bool.{false≢true}
use Rattle.pm_coder.specs.declared.predictor.Predictor as predictor
use Rattle.pm_coder.specs.Intervals.{choice}
use Rattle.pm_coder.specs.Coders.{Coding, May, made, Can, Makes}
use Rattle.pm_coder.specs.Questions.{Question, Answer, answer, question}
use Rattle.pm_coder.specs.Guesses.{told, taught, Tells, upper_place, lower_place}
use Rattle.pm_coder.specs.Guesses.{halving_turns}
use Rattle.pm_coder.specs.Guesses.{halving_answers}
use Rattle.pm_coder.proofs.IntervalLaws.{at_least}
use Rattle.pm_coder.proofs.CoderLaws.{makes-none, makes-more, can-first, can-rest, writer-can}
use Rattle.pm_coder.proofs.CoderLaws.{made-writing, one_choice}
use Rattle.pm_coder.proofs.UniformLaws.{le_yes, le_no}

-- No answer, and one before others.
pub tells-none : {P : Type 0} (k : predictor.Ghosts P) (p : P) (a : Coding) → Tells k p a [] p a
unfolding told taught
tells-none k p a = record { choices = makes-none a; learned = refl }

pub tells-more : {P : Type 0} (k : predictor.Ghosts P) (p mid new : P) (from on to : Coding)
    (q : Question) (bit : Bool) (rest : List Answer) → May from (choice bit (k.share p q))
    → k.share p q < 65536 → on ≡ made from (choice bit (k.share p q)) → mid ≡ k.learned p q bit
    → Tells k mid on rest new to → Tells k p from (answer q bit ∷ rest) new to
unfolding told taught
tells-more k p mid new from on to q bit rest may fit e l t =
    let choices : Makes on (told k (k.learned p q bit) rest) to = rw l at t.choices in
    let learned : new ≡ taught k (k.learned p q bit) rest = rw l at t.learned in
    record { choices = makes-more from on to _ _ may fit e choices; learned = learned }

pub told-more : {P : Type 0} (k : predictor.Ghosts P) (p : P) (q : Question) (bit : Bool)
    (rest : List Answer)
    → told k p (answer q bit ∷ rest) ≡ choice bit (k.share p q) ∷ told k (k.learned p q bit) rest
unfolding told
told-more k p q bit rest = refl

-- One halving.
turns-one : (set : ℕ) (contexts : List ℕ) (turns place bound n : ℕ) → bound ≤ 1
    → halving_turns set contexts turns place bound n ≡ []
unfolding halving_turns
turns-one set contexts zero place bound n l = refl
turns-one set contexts (suc turns) place bound n l = rw (le_yes bound 1 l) refl

turns-upper : (set : ℕ) (contexts : List ℕ) (turns t place bound n : ℕ) → turns ≡ t + 1
    → 1 < bound → bound / 2 ≤ n
    → halving_turns set contexts turns place bound n
    ≡ answer (question set contexts place) true
    ∷ halving_turns set contexts t (upper_place place) (bound - bound / 2) (n - bound / 2)
unfolding halving_turns
turns-upper set contexts zero t place bound n e w l = absurd (omega arith)
turns-upper set contexts (suc turns) t place bound n e w l =
    let s : t ≡ turns = omega arith in
    rw (le_no bound 1 w, le_yes (bound / 2) n l, s) refl

turns-lower : (set : ℕ) (contexts : List ℕ) (turns t place bound n : ℕ) → turns ≡ t + 1
    → 1 < bound → n < bound / 2
    → halving_turns set contexts turns place bound n
    ≡ answer (question set contexts place) false
    ∷ halving_turns set contexts t (lower_place place) (bound / 2) n
unfolding halving_turns
turns-lower set contexts zero t place bound n e w l = absurd (omega arith)
turns-lower set contexts (suc turns) t place bound n e w l =
    let s : t ≡ turns = omega arith in
    rw (le_no bound 1 w, le_no (bound / 2) n l, s) refl

-- More turns than the bound change nothing.
turns-enough : (set : ℕ) (contexts : List ℕ) (d e place bound n : ℕ) → bound ≤ d → bound ≤ e
    → halving_turns set contexts d place bound n ≡ halving_turns set contexts e place bound n
turns-enough set contexts zero e place bound n bd be =
    turns-one set contexts zero place bound n (omega arith)
    ∙ sym (turns-one set contexts e place bound n (omega arith))
turns-enough set contexts (suc d) e place bound n bd be =
    elim (at_least bound 1) [
      | inl one ↦
          turns-one set contexts (suc d) place bound n one
          ∙ sym (turns-one set contexts e place bound n one)
      | inr more ↦
          elim (at_least (bound / 2) n) [
            | inl up ↦
                turns-upper set contexts (suc d) d place bound n (omega arith) more up
                ∙ ap (λ (rest : List Answer). answer (question set contexts place) true ∷ rest)
                (turns-enough set contexts d (e - 1) (upper_place place) (bound - bound / 2)
                (n - bound / 2) (omega arith) (omega arith))
                ∙ sym (turns-upper set contexts e (e - 1) place bound n (omega arith) more up)
            | inr down ↦
                turns-lower set contexts (suc d) d place bound n (omega arith) more down
                ∙ ap (λ (rest : List Answer). answer (question set contexts place) false ∷ rest)
                (turns-enough set contexts d (e - 1) (lower_place place) (bound / 2) n
                (omega arith) (omega arith))
                ∙ sym (turns-lower set contexts e (e - 1) place bound n (omega arith) more down)
          ]
    ]

-- The answers for a number, half by half.
halving-one : (set : ℕ) (contexts : List ℕ) (place bound n : ℕ) → bound ≤ 1
    → halving_answers set contexts place bound n ≡ []
unfolding halving_answers
halving-one set contexts place bound n l = turns-one set contexts bound place bound n l

pub halving-upper : (set : ℕ) (contexts : List ℕ) (place bound n : ℕ) → 1 < bound → bound / 2 ≤ n
    → halving_answers set contexts place bound n
    ≡ answer (question set contexts place) true
    ∷ halving_answers set contexts (upper_place place) (bound - bound / 2) (n - bound / 2)
unfolding halving_answers
halving-upper set contexts place bound n w l =
    turns-upper set contexts bound (bound - 1) place bound n (omega arith) w l
    ∙ ap (λ (rest : List Answer). answer (question set contexts place) true ∷ rest)
    (turns-enough set contexts (bound - 1) (bound - bound / 2) (upper_place place)
    (bound - bound / 2) (n - bound / 2) (omega arith) (omega arith))

pub halving-lower : (set : ℕ) (contexts : List ℕ) (place bound n : ℕ) → 1 < bound → n < bound / 2
    → halving_answers set contexts place bound n
    ≡ answer (question set contexts place) false
    ∷ halving_answers set contexts (lower_place place) (bound / 2) n
unfolding halving_answers
halving-lower set contexts place bound n w l =
    turns-lower set contexts bound (bound - 1) place bound n (omega arith) w l
    ∙ ap (λ (rest : List Answer). answer (question set contexts place) false ∷ rest)
    (turns-enough set contexts (bound - 1) (bound / 2) (lower_place place) (bound / 2) n
    (omega arith) (omega arith))

-- What was told of the halves was told of the whole.
pub one-tells : {P : Type 0} (k : predictor.Ghosts P) (p : P) (a : Coding) (set : ℕ)
    (contexts : List ℕ) (place bound n : ℕ) → bound ≤ 1
    → Tells k p a (halving_answers set contexts place bound n) p a
one-tells k p a set contexts place bound n l =
    rw (halving-one set contexts place bound n l) (tells-none k p a)

pub upper-tells : {P : Type 0} (k : predictor.Ghosts P) (p mid new : P) (from on to : Coding)
    (set : ℕ) (contexts : List ℕ) (place bound n : ℕ) → 1 < bound
    → May from (choice true (k.share p (question set contexts place)))
    → k.share p (question set contexts place) < 65536
    → on ≡ made from (choice true (k.share p (question set contexts place)))
    → mid ≡ k.learned p (question set contexts place) true
    → Tells k mid on (halving_answers set contexts (upper_place place) (bound - bound / 2) n) new to
    → Tells k p from (halving_answers set contexts place bound (bound / 2 + n)) new to
upper-tells k p mid new from on to set contexts place bound n w may fit e l t =
    let rest : (bound / 2 + n) - bound / 2 ≡ n = omega arith in
    rw (halving-upper set contexts place bound (bound / 2 + n) w (omega arith), rest)
    (tells-more k p mid new from on to (question set contexts place) true _ may fit e l t)

pub lower-tells : {P : Type 0} (k : predictor.Ghosts P) (p mid new : P) (from on to : Coding)
    (set : ℕ) (contexts : List ℕ) (place bound n : ℕ) → 1 < bound → n < bound / 2
    → May from (choice false (k.share p (question set contexts place)))
    → k.share p (question set contexts place) < 65536
    → on ≡ made from (choice false (k.share p (question set contexts place)))
    → mid ≡ k.learned p (question set contexts place) false
    → Tells k mid on (halving_answers set contexts (lower_place place) (bound / 2) n) new to
    → Tells k p from (halving_answers set contexts place bound n) new to
lower-tells k p mid new from on to set contexts place bound n w small may fit e l t =
    rw (halving-lower set contexts place bound n w small)
    (tells-more k p mid new from on to (question set contexts place) false _ may fit e l t)

-- The choices of the whole are those of a half after the first.
can-upper : {P : Type 0} (k : predictor.Ghosts P) (p : P) (a : Coding) (set : ℕ)
    (contexts : List ℕ) (place bound n : ℕ) → 1 < bound → bound / 2 ≤ n
    → Can a (told k p (halving_answers set contexts place bound n))
    → Can a (choice true (k.share p (question set contexts place))
    ∷ told k (k.learned p (question set contexts place) true)
    (halving_answers set contexts (upper_place place) (bound - bound / 2)
    (n - bound / 2)))
can-upper k p a set contexts place bound n w up can =
    rw (halving-upper set contexts place bound n w up, told-more) at can

can-lower : {P : Type 0} (k : predictor.Ghosts P) (p : P) (a : Coding) (set : ℕ)
    (contexts : List ℕ) (place bound n : ℕ) → 1 < bound → n < bound / 2
    → Can a (told k p (halving_answers set contexts place bound n))
    → Can a (choice false (k.share p (question set contexts place))
    ∷ told k (k.learned p (question set contexts place) false)
    (halving_answers set contexts (lower_place place) (bound / 2) n))
can-lower k p a set contexts place bound n w down can =
    rw (halving-lower set contexts place bound n w down, told-more) at can

-- Where a half can't be told, no number below the bound can.
pub first-untold : {P : Type 0} (k : predictor.Ghosts P) (p : P) (a : Coding) (set : ℕ)
    (contexts : List ℕ) (place bound : ℕ) → 1 < bound
    → ((bit : Bool) → ¬ May a (choice bit (k.share p (question set contexts place))))
    → (n : ℕ) → ¬ Can a (told k p (halving_answers set contexts place bound n))
first-untold k p a set contexts place bound w none n can =
    elim (at_least (bound / 2) n) [
      | inl up ↦
          none true (can-first a _ _ (can-upper k p a set contexts place bound n w up can))
      | inr down ↦
          none false (can-first a _ _ (can-lower k p a set contexts place bound n w down can))
    ]

pub upper-untold : {P : Type 0} (k : predictor.Ghosts P) (p mid : P) (a on : Coding) (set : ℕ)
    (contexts : List ℕ) (place bound : ℕ) → 1 < bound
    → May a (choice true (k.share p (question set contexts place)))
    → on ≡ made a (choice true (k.share p (question set contexts place)))
    → mid ≡ k.learned p (question set contexts place) true
    → ((n : ℕ) → n < bound - bound / 2 → ¬ Can on
    (told k mid (halving_answers set contexts (upper_place place) (bound - bound / 2) n)))
    → (n : ℕ) → n < bound → ¬ Can a (told k p (halving_answers set contexts place bound n))
upper-untold k p mid a on set contexts place bound w may e l none n small can =
    elim (at_least (bound / 2) n) [
      | inl up ↦
          none (n - bound / 2) (omega arith)
          (rw (e, l) (can-rest a _ _ (can-upper k p a set contexts place bound n w up can)))
      | inr down ↦
          elim (one_choice a false true (k.share p (question set contexts place))
          (can-first a _ _ (can-lower k p a set contexts place bound n w down can)) may) [
            | inl writes ↦
                none 0 (omega arith)
                (writer-can _ on (rw e (made-writing a
                (choice true (k.share p (question set contexts place))) writes)))
            | inr same ↦ absurd (false≢true same)
          ]
    ]

pub lower-untold : {P : Type 0} (k : predictor.Ghosts P) (p mid : P) (a on : Coding) (set : ℕ)
    (contexts : List ℕ) (place bound : ℕ) → 1 < bound
    → May a (choice false (k.share p (question set contexts place)))
    → on ≡ made a (choice false (k.share p (question set contexts place)))
    → mid ≡ k.learned p (question set contexts place) false
    → ((n : ℕ) → n < bound / 2 → ¬ Can on
    (told k mid (halving_answers set contexts (lower_place place) (bound / 2) n)))
    → (n : ℕ) → n < bound → ¬ Can a (told k p (halving_answers set contexts place bound n))
lower-untold k p mid a on set contexts place bound w may e l none n small can =
    elim (at_least (bound / 2) n) [
      | inl up ↦
          elim (one_choice a false true (k.share p (question set contexts place)) may
          (can-first a _ _ (can-upper k p a set contexts place bound n w up can))) [
            | inl writes ↦
                none 0 (omega arith)
                (writer-can _ on (rw e (made-writing a
                (choice false (k.share p (question set contexts place))) writes)))
            | inr same ↦ absurd (false≢true same)
          ]
      | inr down ↦
          none n down
          (rw (e, l) (can-rest a _ _ (can-lower k p a set contexts place bound n w down can)))
    ]
