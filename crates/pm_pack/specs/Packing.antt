-- How far a text was packed, and why it isn't.
use Rattle.std.specs.Prelude.{◌≡◌, ℕ, ◌<◌, ◌≤◌, List, ◌++◌, length, Some}
use Rattle.std.specs.Prelude.{true, false, Result, Ok, Err}
use Rattle.pm_coder.specs.declared.predictor.Predictor as predictor
use Rattle.pm_coder.specs.Coding.{Progress}
use Rattle.pm_coder.specs.Coders.{Writing, Makes}
use Rattle.pm_format.specs.declared.fault.FormatError.{FormatError}
use Rattle.pm_format.specs.declared.fault.FormatError.TheVariants as faults
use Rattle.pm_format.specs.declared.taken.Taken.{Taken}
use Rattle.pm_format.specs.Faults.{stream_fault}
use Rattle.pm_format.specs.Words.{words_of}
use Rattle.pm_pack.specs.declared.writing.PackFail.{PackFail}
use Rattle.pm_pack.specs.declared.writing.PackFail.TheVariants as fails
use Rattle.pm_pack.specs.Texts.{Known, words_choices, all_known}
use Rattle.pm_pack.specs.Packed.{head, slots, at_first, IsStream, Says}

-- The choices of the first of these words were written, and the rest are to come.
pub record HasWritten {P : Type 0} (k : predictor.Ghosts P) (from : Known P) (start : Progress)
    (words rest : List ℕ) (known : Known P) (at : Progress) : Type 0 where
  pub done : List ℕ
  pub all : words ≡ done ++ rest
  pub known_is : known ≡ all_known k from done
  pub made : Makes (Writing start) (words_choices k from done) (Writing at)

-- Bytes follow a stream text.
pub record IsFollowed (bytes : List ℕ) : Type 0 where
  pub text : List ℕ
  pub rest : List ℕ
  pub stream : IsStream text
  pub all : bytes ≡ text ++ rest
  pub some : 0 < length rest

-- Why bytes are no stream text.
abbrev pub IsPackFail : List ℕ → PackFail → Type 0
IsPackFail bytes (fails.Stream fault) = stream_fault bytes ≡ Some fault
IsPackFail bytes fails.Trailing = IsFollowed bytes
IsPackFail bytes fails.OutOfMemory = Unit {0}

-- A fault of a stream text, or want of memory.
abbrev pub refused : FormatError → PackFail
refused faults.OutOfMemory = fails.OutOfMemory
refused fault = fails.Stream fault

-- What became of so many bytes of which a decoder took a part.
abbrev pub Judged : Taken → ℕ → Result (Unit {0}) PackFail → Type 0
Judged fed size (Ok x) = (fed.whole ≡ true) × (size ≤ fed.used)
Judged fed size (Err (fails.Stream fault)) =
    (fed.whole ≡ false) × (fault ≡ faults.Truncated fed.used)
Judged fed size (Err fails.Trailing) = (fed.whole ≡ true) × (fed.used < size)
Judged fed size (Err fails.OutOfMemory) = ⊥

-- The head, and code bytes that say the words of a text.
pub record IsSaid (packed text : List ℕ) : Type 0 where
  pub code : List ℕ
  pub head : packed ≡ head ++ code
  pub says : Says slots at_first code (words_of text)
