-- The words of a command line.
use Rattle.std.specs.Prelude.{ℕ, ◌-◌, ◌≤◌, nat_eq, List, [], ◌∷◌, length, take, slice_index_or}
use Rattle.std.specs.Prelude.{Option, Some, None, if◌then◌else◌, codes}
use Rattle.std.specs.Option.{option_or, option_map}
use Rattle.std.specs.Cmp.Lexicographic.{pointwise}
use Rattle.pm_io.specs.Digits.{unsigned_of}
use Rattle.pm_program.specs.declared.request.Request.{Request}
use Rattle.pm_program.specs.declared.request.Request.TheVariants as requests
use Rattle.pm_program.specs.Requests.{text_asked}
use Rattle.pm_commands.specs.declared.asked.Border.{Border}
use Rattle.pm_commands.specs.declared.asked.Border.TheVariants as borders
use Rattle.pm_commands.specs.declared.asked.Asked.{Asked}
use Rattle.pm_commands.specs.declared.asked.Asked.TheVariants as asked
use Rattle.pm_commands.specs.Asked.{digits_asked, HasSize}

-- What a number of faces asks for, and what a number of decimals after `--digits` does.
abbrev pub with_target : Border → Option ℕ → Option Asked
with_target border None = None
with_target border (Some target) = Some (asked.Simplify target 0 border)

abbrev pub with_digits : Border → Option ℕ → List ℕ → Option ℕ → Option Asked
with_digits border None flag digits = None
with_digits border (Some target) flag None = None
with_digits border (Some target) flag (Some digits) =
    if pointwise nat_eq flag (codes "--digits") then Some (asked.Simplify target digits border)
    else None

-- What the words ask for with the border free or kept: none, `N`, `--digits D` or `N --digits D`,
-- with N an unsigned number of 32 bits, and D from 0 to 4. Without N it is 0, and so is D. Other
-- words ask for nothing.
unfoldable pub with_border : Border → List (List ℕ) → Option Asked
with_border border [] = Some (asked.Simplify 0 0 border)
with_border border (number ∷ []) = with_target border (unsigned_of 4294967295 number)
with_border border (flag ∷ digits ∷ []) = with_digits border (Some 0) flag (unsigned_of 4 digits)
with_border border (number ∷ flag ∷ digits ∷ []) =
    with_digits border (unsigned_of 4294967295 number) flag (unsigned_of 4 digits)
with_border border _ = None

-- The last of the words, if there is one.
abbrev pub last_word : List (List ℕ) → List ℕ
last_word words = slice_index_or words (length words - 1) []

-- The work that the words ask for. The border is kept where the last word is `--keep-border`, and
-- the words before it ask for the rest; else it is free.
unfoldable pub work_of : List (List ℕ) → Option Asked
work_of words =
    if pointwise nat_eq (last_word words) (codes "--keep-border")
    then with_border borders.Kept (take (length words - 1) words)
    else with_border borders.Free words

-- The text that the words ask for: `--help` or `--version`, which stand alone.
abbrev pub text_of : List (List ℕ) → Option (Request Asked)
text_of (word ∷ []) = text_asked word
text_of _ = None

-- What the words ask for: a text, or else work. Other words ask for nothing.
unfoldable pub asked_by : List (List ℕ) → Option (Request Asked)
asked_by words = option_or (text_of words) (option_map (λ a. requests.Work a) (work_of words))

-- The work that is asked for is in range.
abbrev pub IsPossible : Request Asked → Type 0
IsPossible (requests.Work asked) = (digits_asked asked ≤ 4) × HasSize asked
IsPossible requests.Help = Unit {0}
IsPossible requests.Version = Unit {0}
