-- The lines of a header and their words.
use Rattle.std.specs.Prelude.{ℕ, ◌-◌, ◌==◌, List, [], ◌∷◌, length, take, nat_eq}
use Rattle.std.specs.Prelude.{Bool, false, Option, Some, None, if◌then◌else◌}
use Rattle.std.specs.Cmp.Lexicographic.{pointwise}
use Rattle.obj_lines.specs.Text.{ends_with}
use Rattle.obj_read.specs.Fields.{fields}

-- A line without its LF, and what stands after that.
pub record Line : Type 0 where
  pub text : List ℕ
  pub after : List ℕ

abbrev pub line_of : List ℕ → List ℕ → Line
line_of text after = record { text = text; after = after }

abbrev pub begun : ℕ → List Line → List Line
begun b [] = line_of (b ∷ []) [] ∷ []
begun b (l ∷ ls) = line_of (b ∷ l.text) l.after ∷ ls

-- The lines of the bytes.
abbrev pub lines : List ℕ → List Line
lines [] = []
lines (b ∷ bs) = if b == 10 then line_of [] bs ∷ lines bs else begun b (lines bs)

-- Without one CR at the end.
unfoldable pub without_cr : List ℕ → List ℕ
without_cr text = if ends_with 13 text then take (length text - 1) text else text

-- The words of a line, between spaces and tabs.
abbrev pub words : List ℕ → List (List ℕ)
words text = fields (without_cr text)

abbrev pub is_word : List ℕ → List ℕ → Bool
is_word word field = pointwise nat_eq field word

-- One word alone, two, or three.
abbrev pub one : List (List ℕ) → Option (List ℕ)
one (a ∷ []) = Some a
one _ = None

abbrev pub two : List (List ℕ) → Option (List ℕ × List ℕ)
two (a ∷ b ∷ []) = Some (a, b)
two _ = None

abbrev pub three : List (List ℕ) → Option (List ℕ × List ℕ × List ℕ)
three (a ∷ b ∷ c ∷ []) = Some (a, b, c)
three _ = None

-- The line has this word alone.
abbrev pub is_only : List ℕ → Option (List ℕ) → Bool
is_only word (Some w) = is_word word w
is_only word None = false
