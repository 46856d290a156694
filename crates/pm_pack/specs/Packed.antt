-- Packed texts: five bytes, and code bytes that say the words of a stream text.
use Rattle.std.specs.Prelude.{◌≡◌, ℕ, List, [], ◌∷◌, ◌++◌, length, codes}
use Rattle.pm_coder.specs.declared.predictor.Predictor as predictor
use Rattle.pm_coder.specs.Coding.{Progress}
use Rattle.pm_coder.specs.Coders.{Reading, Makes}
use Rattle.pm_coder.specs.RoundTrips.{first}
use Rattle.pm_forest.specs.Forest.{Hierarchy}
use Rattle.pm_format.specs.Words.{words_of}
use Rattle.pm_format.specs.Standing.{IsText}
use Rattle.pm_pack.specs.Hashes.{Table, share_in, learned_in, fresh_slots}
use Rattle.pm_pack.specs.Texts.{Known, nothing_seen, words_choices}

-- The bytes that a packed text begins with: its magic, and its version.
abbrev pub head : List ℕ
head = codes "VDPK" ++ 1 ∷ []

-- The code bytes say these words, and nothing follows: the four bytes of the end are left.
pub record Says {P : Type 0} (k : predictor.Ghosts P) (known : Known P) (code words : List ℕ)
    : Type 0 where
  pub end : Progress
  pub made : Makes (Reading (first code)) (words_choices k known words) (Reading end)
  pub all : length end.bytes ≡ 4

-- Shares come from a table of 2^20 slots that have learnt nothing.
abbrev pub slots : predictor.Ghosts Table
slots = record { share = share_in; learned = learned_in }

unfoldable pub at_first : Known Table
at_first = record { learnt = fresh_slots 1048576; seen = nothing_seen }

-- A text is the stream text of a hierarchy of the right shape.
pub record IsStream (text : List ℕ) : Type 0 where
  pub digits : ℕ
  pub h : Hierarchy
  pub is : IsText text digits h

-- A packed text is that of a stream text.
pub record IsPacked (packed text : List ℕ) : Type 0 where
  pub code : List ℕ
  pub head : packed ≡ head ++ code
  pub stream : IsStream text
  pub says : Says slots at_first code (words_of text)

-- A packed text is that of one text alone.
abbrev pub PackedTextsAreOfOne : Type 0
PackedTextsAreOfOne = (packed s t : List ℕ) → IsPacked packed s → IsPacked packed t → s ≡ t
