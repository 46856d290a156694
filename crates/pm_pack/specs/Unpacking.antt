-- How far a packed text was read, and why it is no packed text.
use Rattle.std.specs.Prelude.{◌≡◌, ◌≢◌, ◌⊎◌, ℕ, ◌<◌, List, ◌++◌, length, Bool, true, false}
use Rattle.std.specs.Prelude.{[], ◌∷◌, ◌≤◌, take, Result, Ok, Err, Some}
use Rattle.pm_coder.specs.declared.predictor.Predictor as predictor
use Rattle.pm_coder.specs.Coding.{Progress}
use Rattle.pm_coder.specs.Coders.{Reading, Can, Makes}
use Rattle.pm_coder.specs.RoundTrips.{first}
use Rattle.pm_format.specs.declared.fault.FormatError.{FormatError}
use Rattle.pm_format.specs.declared.fault.FormatError.TheVariants as faults
use Rattle.pm_format.specs.Words.{words_of, spelled}
use Rattle.pm_format.specs.Faults.{stream_fault}
use Rattle.pm_forest.specs.Forest.{Hierarchy}
use Rattle.pm_format.specs.Standing.{Decoding, IsDecoderAfter, IsText, HasFaultAlready, is_whole}
use Rattle.pm_format.specs.Standing.{takes_more}
use Rattle.pm_pack.specs.declared.reading.UnpackFail.{UnpackFail}
use Rattle.pm_pack.specs.declared.reading.UnpackFail.TheVariants as fails
use Rattle.pm_pack.specs.Texts.{Known, AreWords, word_choices, words_choices, all_known}
use Rattle.pm_pack.specs.Packed.{head, slots, at_first, IsStream, Says}

-- These words were read of the code bytes, and so far it has come.
pub record HasRead {P : Type 0} (k : predictor.Ghosts P) (from : Known P) (code : List ℕ)
    (words : List ℕ) (at : Progress) : Type 0 where
  pub fit : AreWords words
  pub made : Makes (Reading (first code)) (words_choices k from words) (Reading at)

-- The bytes end before they are a whole text, and have no fault.
abbrev pub IsCut : List ℕ → Type 0
IsCut bytes = stream_fault bytes ≡ Some (faults.Truncated (length bytes))

-- More words are to come: what was read stands in the text, and was fed.
pub record ReadsOn {P : Type 0} (k : predictor.Ghosts P) (from : Known P) (code : List ℕ)
    (known : Known P) (at : Progress) (stream : Decoding) (text : List ℕ) : Type 0 where
  pub words : List ℕ
  pub read : HasRead k from code words at
  pub known_is : known ≡ all_known k from words
  pub text_is : text ≡ spelled words
  pub after : IsDecoderAfter text stream
  pub on : takes_more stream.stage ≡ true
  pub cut : IsCut text

-- The words are those of a whole stream text.
pub record ReadsAll {P : Type 0} (k : predictor.Ghosts P) (from : Known P) (code : List ℕ)
    (at : Progress) (text : List ℕ) : Type 0 where
  pub words : List ℕ
  pub read : HasRead k from code words at
  pub text_is : text ≡ spelled words
  pub stream : IsStream text

-- The code bytes end in a word, or tell none.
pub record CutsOff {P : Type 0} (k : predictor.Ghosts P) (from : Known P) (code : List ℕ) : Type 0
  where
    pub words : List ℕ
    pub at : Progress
    pub read : HasRead k from code words at
    pub cut : IsCut (spelled words)
    pub none : (w : ℕ) → w < 4294967296
        → ¬ Can (Reading at) (word_choices k (all_known k from words) w)

-- The words have this fault of a stream text, whatever follows.
pub record SaysFault {P : Type 0} (k : predictor.Ghosts P) (from : Known P) (code : List ℕ)
    (fault : FormatError) : Type 0 where
  pub words : List ℕ
  pub at : Progress
  pub read : HasRead k from code words at
  pub faulty : (more : List ℕ) → stream_fault (spelled words ++ more) ≡ Some fault

-- Code bytes follow a whole stream text.
pub record GoesOn {P : Type 0} (k : predictor.Ghosts P) (from : Known P) (code : List ℕ) : Type 0
  where
    pub text : List ℕ
    pub at : Progress
    pub all : ReadsAll k from code at text
    pub left : length at.bytes ≢ 4

-- Why code bytes say no stream text.
abbrev pub IsFailOf : {P : Type 0} → predictor.Ghosts P → Known P → List ℕ → UnpackFail → Type 0
IsFailOf k from code fails.NotPacked = ⊥
IsFailOf k from code fails.Cut = CutsOff k from code
IsFailOf k from code fails.Trailing = GoesOn k from code
IsFailOf k from code (fails.Stream fault) = SaysFault k from code fault
IsFailOf k from code fails.OutOfMemory = Unit {0}

-- The decoder of a stream has the whole text.
pub record HasAll (text : List ℕ) (stream : Decoding) : Type 0 where
  pub after : IsDecoderAfter text stream
  pub whole : is_whole stream.stage ≡ true

-- One word more was read than these.
pub record IsOneMore (before words : List ℕ) : Type 0 where
  pub last : ℕ
  pub is : words ≡ before ++ last ∷ []

-- What was read, and the stream that was fed it, of which more is to come.
pub record HasFed {P : Type 0} (k : predictor.Ghosts P) (from : Known P) (code words : List ℕ)
    (at : Progress) (stream : Decoding) : Type 0 where
  pub read : HasRead k from code words at
  pub after : IsDecoderAfter (spelled words) stream
  pub on : takes_more stream.stage ≡ true

-- The code bytes end in a word, or tell none, after those that the stream was fed.
abbrev pub CutsAt : {P : Type 0} → predictor.Ghosts P → Known P → List ℕ → Decoding → Type 0
CutsAt k from code stream = (off : CutsOff k from code)
    × HasFed k from code off.words off.at stream

-- What one more word than those before did: whether more are to come.
abbrev pub Steps : {P : Type 0} → predictor.Ghosts P → Known P → List ℕ → List ℕ → Known P
    → Progress → Decoding → List ℕ → Result Bool UnpackFail → Type 0
Steps k from code before known at stream text (Ok true) = ReadsOn k from code known at stream text
Steps k from code before known at stream text (Ok false) =
    (all : ReadsAll k from code at text) × HasAll text stream × IsOneMore before all.words
Steps k from code before known at stream text (Err fails.NotPacked) = ⊥
Steps k from code before known at stream text (Err fails.Cut) = CutsAt k from code stream
Steps k from code before known at stream text (Err fails.Trailing) = ⊥
Steps k from code before known at stream text (Err (fails.Stream fault)) =
    (says : SaysFault k from code fault) × IsOneMore before says.words
Steps k from code before known at stream text (Err fails.OutOfMemory) = Unit {0}

-- Why a text isn't unpacked: it begins otherwise than packed texts, or by its code bytes.
abbrev pub IsFail : List ℕ → UnpackFail → Type 0
IsFail packed fail =
    ((fail ≡ fails.NotPacked) × ((code : List ℕ) → packed ≢ head ++ code))
    ⊎ ((code : List ℕ) × (packed ≡ head ++ code) × IsFailOf slots at_first code fail)

-- How the reading of words ended.
abbrev pub Ends : {P : Type 0} → predictor.Ghosts P → Known P → List ℕ → Progress → List ℕ
    → Result (Unit {0}) UnpackFail → Type 0
Ends k from code at text (Ok x) = ReadsAll k from code at text
Ends k from code at text (Err e) = IsFailOf k from code e

-- A fault of a stream text, or want of memory.
abbrev pub named : FormatError → UnpackFail
named faults.OutOfMemory = fails.OutOfMemory
named fault = fails.Stream fault

-- With a part of the piece the text is whole.
pub record IsWholeIn (old piece : List ℕ) (stream : Decoding) : Type 0 where
  pub used : ℕ
  pub digits : ℕ
  pub h : Hierarchy
  pub few : used ≤ length piece
  pub is : IsText (old ++ take used piece) digits h
  pub all : HasAll (old ++ take used piece) stream

-- What feeding a piece that was added to a text did: whether more are to come.
abbrev pub Feeds : List ℕ → List ℕ → List ℕ → Decoding → Result Bool UnpackFail → Type 0
Feeds old piece new stream (Ok true) =
    (new ≡ old ++ piece) × IsDecoderAfter new stream × IsCut new × (takes_more stream.stage ≡ true)
Feeds old piece new stream (Ok false) = (new ≡ old ++ piece) × IsWholeIn old piece stream
Feeds old piece new stream (Err fails.NotPacked) = ⊥
Feeds old piece new stream (Err fails.Cut) = ⊥
Feeds old piece new stream (Err fails.Trailing) = ⊥
Feeds old piece new stream (Err (fails.Stream fault)) =
    (fault ≢ faults.OutOfMemory) × HasFaultAlready (old ++ piece) fault
Feeds old piece new stream (Err fails.OutOfMemory) = Unit {0}

-- The code bytes say the words of a stream text, and nothing follows.
pub record SaysStream (code text : List ℕ) : Type 0 where
  pub stream : IsStream text
  pub says : Says slots at_first code (words_of text)
