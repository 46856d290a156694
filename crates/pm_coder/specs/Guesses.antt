-- Values by answers, each at the share that a predictor gives.
use Rattle.std.specs.Prelude.{◌≡◌, ◌≢◌, ◌⊎◌, ℕ, zero, suc, ◌+◌, ◌-◌, ◌*◌, ◌/◌, ◌%◌, ◌^◌, true}
use Rattle.std.specs.Prelude.{false}
use Rattle.std.specs.Prelude.{List, [], ◌∷◌, nat_le, if◌then◌else◌}
use Rattle.pm_coder.specs.declared.predictor.Predictor as predictor
use Rattle.pm_coder.specs.Intervals.{Choice, choice}
use Rattle.pm_coder.specs.Coders.{Coding, Makes}
use Rattle.pm_coder.specs.Questions.{Answer, answer, question}

-- The choices of answers, each at the share that the predictor gives, which learns it.
unfoldable pub told : {P : Type 0} → predictor.Ghosts P → P → List Answer → List Choice
told k p [] = []
told k p (a ∷ rest) =
    choice a.bit (k.share p a.asked) ∷ told k (k.learned p a.asked a.bit) rest

-- The predictor after answers.
unfoldable pub taught : {P : Type 0} → predictor.Ghosts P → P → List Answer → P
taught k p [] = p
taught k p (a ∷ rest) = taught k (k.learned p a.asked a.bit) rest

-- A predictor and a coder went through these answers.
pub record Tells {P : Type 0} (k : predictor.Ghosts P) (old : P) (from : Coding)
    (answers : List Answer) (new : P) (to : Coding) : Type 0 where
  pub choices : Makes from (told k old answers) to
  pub learned : new ≡ taught k old answers

-- Two lists of answers are the same up to one question, to which they have another bit.
unfoldable pub Differ : List Answer → List Answer → Type 0
Differ [] ys = ⊥
Differ (x ∷ xs) [] = ⊥
Differ (x ∷ xs) (y ∷ ys) =
    (x.asked ≡ y.asked) × ((x.bit ≢ y.bit) ⊎ ((x.bit ≡ y.bit) × Differ xs ys))

-- The place of the next bit in either half: which bits came before, the last 30 at most.
abbrev pub upper_place : ℕ → ℕ
upper_place place = place % 1073741824 * 2 + 1

abbrev pub lower_place : ℕ → ℕ
lower_place place = place % 1073741824 * 2

-- Whether the number is in the upper half, and so on in that half; `turns` halvings at most.
unfoldable pub halving_turns : ℕ → List ℕ → ℕ → ℕ → ℕ → ℕ → List Answer
halving_turns set contexts zero place bound n = []
halving_turns set contexts (suc turns) place bound n =
    if nat_le bound 1 then [] else
    if nat_le (bound / 2) n
    then answer (question set contexts place) true
    ∷ halving_turns set contexts turns (upper_place place) (bound - bound / 2) (n - bound / 2)
    else answer (question set contexts place) false
    ∷ halving_turns set contexts turns (lower_place place) (bound / 2) n

-- The answers for a number below a bound.
unfoldable pub halving_answers : ℕ → List ℕ → ℕ → ℕ → ℕ → List Answer
halving_answers set contexts place bound n = halving_turns set contexts bound place bound n

-- The answers for the bits of a number below its top one, which is at `place`.
unfoldable pub rest_answers : ℕ → List ℕ → ℕ → ℕ → List Answer
rest_answers set contexts place n =
    halving_answers (set + 1) contexts (32 + place) (2 ^ place) (n - 2 ^ place)

-- Whether there is a bit above `place`, and so on; then the bits below the top one. `turns` bits
-- more at most.
unfoldable pub bits_answers : ℕ → List ℕ → ℕ → ℕ → ℕ → List Answer
bits_answers set contexts zero place n = rest_answers set contexts place n
bits_answers set contexts (suc turns) place n =
    if nat_le (2 ^ place) (n / 2)
    then answer (question set contexts place) true
    ∷ bits_answers set contexts turns (place + 1) n
    else answer (question set contexts place) false ∷ rest_answers set contexts place n

-- The answers for a number below 2^32 - 1: how many bits the next has, and the bits.
unfoldable pub number_answers : ℕ → List ℕ → ℕ → List Answer
number_answers set contexts n = bits_answers set contexts 31 0 (n + 1)
