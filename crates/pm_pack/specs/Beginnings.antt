-- The beginning of a packed text: the units that it tells, whatever follows, and their first
-- records.
use Rattle.std.specs.Prelude.{◌≡◌, ◌≢◌, ◌⊎◌, ◌≤◌, ◌<◌, ℕ, List, [], ◌∷◌, ◌++◌, Bool, true}
use Rattle.std.specs.Prelude.{false}
use Rattle.std.specs.Prelude.{◌&&◌, nat_le, min, Result, Ok, Err}
use Rattle.pm_coder.specs.declared.predictor.Predictor as predictor
use Rattle.pm_coder.specs.Coding.{Progress}
use Rattle.pm_coder.specs.Coders.{Reading, Can}
use Rattle.pm_forest.specs.Forest.{Hierarchy, record_count}
use Rattle.pm_format.specs.declared.stage.Stage.{Stage}
use Rattle.pm_format.specs.declared.stage.Stage.TheVariants as stages
use Rattle.pm_format.specs.declared.read.Stream.{Stream}
use Rattle.pm_format.specs.Words.{spelled}
use Rattle.pm_format.specs.Stream.{stream}
use Rattle.pm_format.specs.Standing.{Decoding, IsDecoderAfter, IsText, HasUnits, has_begun}
use Rattle.pm_format.specs.Standing.{digits_of, IsSoundDecoding, takes_more}
use Rattle.pm_prefix.specs.Prefix.{first_records}
use Rattle.pm_pack.specs.declared.beginning.Beginning.{Beginning}
use Rattle.pm_pack.specs.declared.beginning.Beginning.TheVariants as beginnings
use Rattle.pm_pack.specs.declared.beginning.Reach.{Reach}
use Rattle.pm_pack.specs.declared.beginning.Reach.TheVariants as reaches
use Rattle.pm_pack.specs.declared.reading.UnpackFail.{UnpackFail}
use Rattle.pm_pack.specs.declared.reading.UnpackFail.TheVariants as fails
use Rattle.pm_pack.specs.Texts.{Known, word_choices, all_known}
use Rattle.pm_pack.specs.Packed.{head, slots, at_first, IsPacked}
use Rattle.pm_pack.specs.Unpacking.{HasRead, ReadsAll, CutsOff, SaysFault, GoesOn, SaysStream}
use Rattle.pm_pack.specs.Unpacking.{HasAll, HasFed, CutsAt}

-- A decoder of a stream stands after these bytes: it has taken all units that they have.
pub record StandsSoundly (bytes : List ℕ) (stream : Decoding) : Type 0 where
  pub after : IsDecoderAfter bytes stream
  pub sound : IsSoundDecoding stream.stage stream.held stream.taken

-- The code bytes tell these units: all roots and base faces, and the first records.
pub record TellsUnits (code : List ℕ) (digits : ℕ) (units : Hierarchy) : Type 0 where
  pub words : List ℕ
  pub at : Progress
  pub read : HasRead slots at_first code words at
  pub stream : Decoding
  pub stands : StandsSoundly (spelled words) stream
  pub begun : has_begun stream.stage ≡ true
  pub are : HasUnits stream.stage units
  pub digits_are : digits ≡ digits_of stream.stage

-- After these words they tell no other.
abbrev pub TellsNoMore : {P : Type 0} → predictor.Ghosts P → Known P → List ℕ → Progress → Type 0
TellsNoMore k from words at =
    (w : ℕ) → w < 4294967296 → ¬ Can (Reading at) (word_choices k (all_known k from words) w)

-- The first n records, or all where there are fewer.
abbrev pub first_of : Hierarchy → ℕ → Hierarchy
first_of units n = first_records units (min n (record_count units))

-- The first n records of what the code bytes tell, or all that they tell of them.
pub record IsFirstPart (code : List ℕ) (n : ℕ) (part : Stream) : Type 0 where
  pub units : Hierarchy
  pub tells : TellsUnits code part.digits units
  pub is : part.h ≡ first_of units n
  pub few : part.digits ≤ 4
  pub enough : (n ≤ record_count units) ⊎ TellsNoMore slots at_first tells.words tells.at
  -- (else it is the whole text)
  pub some : (takes_more tells.stream.stage ≡ true) ⊎ (n < record_count units)

-- The code bytes say a whole text, which has no more than n records.
pub record SaysFew (code : List ℕ) (n : ℕ) (text : List ℕ) : Type 0 where
  pub says : SaysStream code text
  pub digits : ℕ
  pub h : Hierarchy
  pub is : IsText text digits h
  pub few : record_count h ≤ n

-- What code bytes have of the first n records.
abbrev pub IsBeginningOf : List ℕ → ℕ → Beginning → Type 0
IsBeginningOf code n (beginnings.Whole text) = SaysFew code n text.items
IsBeginningOf code n (beginnings.Part part) = IsFirstPart code n part

-- What a packed text, or the beginning of one, has of them.
abbrev pub IsBeginning : List ℕ → ℕ → Beginning → Type 0
IsBeginning packed n b = (code : List ℕ) × (packed ≡ head ++ code) × IsBeginningOf code n b

-- Its stream text.
abbrev pub text_of : Beginning → List ℕ
text_of (beginnings.Whole text) = text.items
text_of (beginnings.Part part) = stream part.digits part.h

-- Its coordinates have at most four decimals.
abbrev pub HasDecimals : Beginning → Type 0
HasDecimals (beginnings.Whole text) = Unit {0}
HasDecimals (beginnings.Part part) = part.digits ≤ 4

-- The code bytes end before all roots and base faces.
pub record EndsEarly (code : List ℕ) : Type 0 where
  pub off : CutsOff slots at_first code
  pub stream : Decoding
  pub stands : StandsSoundly (spelled off.words) stream
  pub on : takes_more stream.stage ≡ true
  pub early : has_begun stream.stage ≡ false

-- How many records are there.
abbrev pub records_in : Stage → ℕ
records_in stages.Header = 0
records_in (stages.Units s digits) = record_count s.h
records_in (stages.Whole h digits) = record_count h
records_in (stages.Refused e) = 0

-- So many records are there, and all roots and base faces.
abbrev pub has_records : Stage → ℕ → Bool
has_records stage n = has_begun stage && nat_le n (records_in stage)

-- Before the last of these words n records weren't there.
pub record IsStillShort (n : ℕ) (words : List ℕ) : Type 0 where
  pub before : List ℕ
  pub last : ℕ
  pub is : words ≡ before ++ last ∷ []
  pub stream : Decoding
  pub stands : StandsSoundly (spelled before) stream
  pub on : takes_more stream.stage ≡ true
  pub short : has_records stream.stage n ≡ false

-- Why code bytes have none: they end so early, or n records weren't there yet where what is read
-- has a fault, or where it was the whole and bytes follow.
abbrev pub IsEarlyFail : List ℕ → ℕ → UnpackFail → Type 0
IsEarlyFail code n fails.NotPacked = ⊥
IsEarlyFail code n fails.Cut = EndsEarly code
IsEarlyFail code n fails.Trailing =
    (on : GoesOn slots at_first code) × IsStillShort n on.all.words
IsEarlyFail code n (fails.Stream fault) =
    (says : SaysFault slots at_first code fault) × IsStillShort n says.words
IsEarlyFail code n fails.OutOfMemory = Unit {0}

abbrev pub IsBeginningFail : List ℕ → ℕ → UnpackFail → Type 0
IsBeginningFail packed n fail =
    ((fail ≡ fails.NotPacked) × ((code : List ℕ) → packed ≢ head ++ code))
    ⊎ ((code : List ℕ) × (packed ≡ head ++ code) × IsEarlyFail code n fail)

-- No more are there, and all roots and base faces.
abbrev pub has_few : Stage → ℕ → Bool
has_few stage n = has_begun stage && nat_le (records_in stage) n

-- The part that a decoder at this stage has.
abbrev pub IsPartOf : Stage → ℕ → Beginning → Type 0
IsPartOf stage n (beginnings.Whole text) = ⊥
IsPartOf stage n (beginnings.Part part) =
    (units : Hierarchy) × HasUnits stage units × (has_begun stage ≡ true)
    × (part.digits ≡ digits_of stage) × (part.h ≡ first_of units n)

-- That part, or the text, where no more records are there.
abbrev pub IsTextOrPart : Stage → ℕ → List ℕ → Beginning → Type 0
IsTextOrPart stage n bytes (beginnings.Whole text) =
    (text.items ≡ bytes) × (records_in stage ≤ n)
IsTextOrPart stage n bytes (beginnings.Part part) =
    IsPartOf stage n (beginnings.Part part) × (n < records_in stage)

-- How the reading of n records ended.
abbrev pub Reaches : {P : Type 0} → predictor.Ghosts P → Known P → List ℕ → ℕ → Progress
    → Decoding → List ℕ → Result Reach UnpackFail → Type 0
Reaches k from code n at stream text (Ok reaches.Enough) =
    (words : List ℕ) × HasFed k from code words at stream × (has_records stream.stage n ≡ true)
Reaches k from code n at stream text (Ok reaches.Whole) =
    (all : ReadsAll k from code at text) × HasAll text stream × IsStillShort n all.words
Reaches k from code n at stream text (Ok reaches.Cut) = CutsAt k from code stream
Reaches k from code n at stream text (Err fails.NotPacked) = ⊥
Reaches k from code n at stream text (Err fails.Cut) = ⊥
Reaches k from code n at stream text (Err fails.Trailing) = ⊥
Reaches k from code n at stream text (Err (fails.Stream fault)) =
    (says : SaysFault k from code fault) × IsStillShort n says.words
Reaches k from code n at stream text (Err fails.OutOfMemory) = Unit {0}

-- Where the bytes end, what was read stands.
abbrev pub reach_after : UnpackFail → Result Reach UnpackFail
reach_after fails.Cut = Ok reaches.Cut
reach_after fail = Err fail

-- Whatever follows, what the beginning has is of the whole: as many of its first records.
pub record IsOfWhole (n digits : ℕ) (p : Hierarchy) (d : ℕ) (h : Hierarchy) : Type 0 where
  pub digits_are : digits ≡ d
  pub records : ℕ
  pub few : records ≤ n
  pub some : records ≤ record_count h
  pub is : p ≡ first_records h records

abbrev pub BeginningsAreOfTheWhole : Type 0
BeginningsAreOfTheWhole =
    (packed more whole : List ℕ) (n : ℕ) (part : Stream) (d : ℕ) (h : Hierarchy)
    → IsBeginning packed n (beginnings.Part part) → IsPacked (packed ++ more) whole
    → IsText whole d h → IsOfWhole n part.digits part.h d h
