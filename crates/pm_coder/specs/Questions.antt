-- What is asked of a predictor.
use Rattle.std.specs.Prelude.{ℕ, Bool, List}

-- The set, which says how contexts are weighed, the contexts, and the bit's place in its value.
pub record Question : Type 0 where
  pub set : ℕ
  pub contexts : List ℕ
  pub place : ℕ

abbrev pub question : ℕ → List ℕ → ℕ → Question
question set contexts place = record { set = set; contexts = contexts; place = place }

-- A question, and the bit.
pub record Answer : Type 0 where
  pub asked : Question
  pub bit : Bool

abbrev pub answer : Question → Bool → Answer
answer asked bit = record { asked = asked; bit = bit }
