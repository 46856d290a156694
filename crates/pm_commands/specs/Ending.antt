-- How a command ends, and when each status comes.
use Rattle.std.specs.Prelude.{◌≡◌, ◌≢◌, ◌⊎◌, ℕ, ◌+◌, ◌<◌, ◌≤◌, List, [], ◌∷◌, ◌++◌, length, Option}
use Rattle.std.specs.Prelude.{Some, None, IfSome, Result, Ok, Err}
use Rattle.std.specs.Io.KnownBytes.{prepend_known}
use Rattle.pm_io.specs.Bytes.{Loses, Gains, GainsPart, AtEnd}
use Rattle.pm_io.specs.Causes.{Rose}
use Rattle.pm_io.specs.Letters.{line_feed}
use Rattle.obj_lines.specs.Text.{until, lines}
use Rattle.pm_forest.specs.Forest.{Hierarchy}
use Rattle.pm_beyond.specs.Valid.{IsValid}
use Rattle.pm_format.specs.declared.fault.FormatError.TheVariants as format
use Rattle.pm_format.specs.Stream.{stream}
use Rattle.pm_format.specs.Faults.{stream_fault}
use Rattle.pm_session.specs.declared.grammar.Grammar.{Grammar}
use Rattle.pm_session.specs.declared.grammar.Grammar.TheVariants as grammars
use Rattle.pm_session.specs.Script.{at_first}
use Rattle.pm_session.specs.Serving.{played, AreLines}
use Rattle.pm_commands.specs.declared.asked.Asked.{Asked}
use Rattle.pm_commands.specs.declared.asked.Asked.TheVariants as asked
use Rattle.pm_commands.specs.declared.fault.Fault.{Fault}
use Rattle.pm_commands.specs.declared.fault.CommandFail.{CommandFail}
use Rattle.pm_commands.specs.declared.fault.CommandFail.TheVariants as fails
use Rattle.pm_commands.specs.Ran.{Ran}
use Rattle.pm_commands.specs.Outcome.{IsOutcome, Replied, CutShort}

-- The replies to a script once these bytes were taken and no more can be: none within the stream,
-- and then those to the script lines whose LF is among them.
pub data RepliesTo (grammar : Grammar) (budget : ℕ) : List ℕ → List ℕ → Type 0 where
  in_stream : (taken : List ℕ) → stream_fault taken ≡ Some (format.Truncated (length taken))
      → RepliesTo grammar budget taken []
  in_script : (digits : ℕ) (h : Hierarchy) (front line : List ℕ) → digits ≤ 4 → IsValid h
      → AreLines front → until line_feed line ≡ line
      → RepliesTo grammar budget (stream digits h ++ (front ++ line))
      (played h grammar (at_first budget) front).text

-- What a command has put once these bytes were taken and no more can be: `view` and `live` their
-- replies, and the others nothing. `demo` takes none, so no read of it fails.
abbrev pub PutBy : Asked → List ℕ → List ℕ → Type 0
PutBy (asked.Canon digits) taken text = text ≡ []
PutBy (asked.Build target digits) taken text = text ≡ []
PutBy asked.Expand taken text = text ≡ []
PutBy asked.Check taken text = text ≡ []
PutBy (asked.View budget) taken text = RepliesTo grammars.View budget taken text
PutBy (asked.Live budget) taken text = RepliesTo grammars.Live budget taken text
PutBy (asked.Demo n) taken text = ⊥
PutBy (asked.Simplify target digits border) taken text = text ≡ []

-- A read failed before the place that decides the outcome.
pub record ReadFails (asks : Asked) (left now old new : Option (List ℕ)) : Type 0 where
  pub taken : List ℕ
  pub took : Loses left now taken
  pub before : IfSome left (λ bytes. (all : Ran) → IsOutcome asks bytes all
      → IfSome all.place (λ n. length taken < n))
  pub text : List ℕ
  pub put : PutBy asks taken text
  pub gained : Gains old new text

-- Where the end of the input decides the outcome, the input was read to its end.
abbrev pub ReadToEnd : Asked → Option (List ℕ) → Option (List ℕ) → Type 0
ReadToEnd asks left now =
    IfSome left (λ bytes. (all : Ran) → IsOutcome asks bytes all → all.place ≡ None → AtEnd now)

-- The bytes up to this place were taken, and fewer than 4,096 past it.
pub record TakesTo (place : ℕ) (left now : Option (List ℕ)) : Type 0 where
  pub taken : List ℕ
  pub took : Loses left now taken
  pub reached : place ≤ length taken
  pub few : length taken < place + 4096

-- Where a byte of the input decides the outcome, the input was read to that byte and few bytes past
-- it.
abbrev pub ReadToPlace : Asked → Option (List ℕ) → Option (List ℕ) → Type 0
ReadToPlace asks left now =
    IfSome left (λ bytes. (all : Ran) → IsOutcome asks bytes all
    → IfSome all.place (λ place. TakesTo place left now))

-- A write failed at the reply to this line, which stands after whole lines and was taken to its LF,
-- or to the end of the input, and few bytes were taken past the line.
pub record FewMoreIn (grammar : Grammar) (budget : ℕ) (left now old new : Option (List ℕ)) : Type 0
  where
    pub digits : ℕ
    pub h : Hierarchy
    pub front : List ℕ
    pub line : List ℕ
    pub window : List ℕ
    pub told : digits ≤ 4
    pub good : IsValid h
    pub took : Loses left now (stream digits h ++ ((front ++ line) ++ window))
    pub ends : AreLines front
    pub one : lines line ≡ line ∷ []
    pub to_its_end : AreLines line ⊎ AtEnd (prepend_known window now)
    pub few : length window ≤ 4095
    pub part : GainsPart old new (played h grammar (at_first budget) (front ++ line)).text
    pub before : length (played h grammar (at_first budget) front).text ≤ length part.done

-- The same of `view`, and of `live`.
abbrev pub FewMore : ℕ → Option (List ℕ) → Option (List ℕ) → Option (List ℕ) → Option (List ℕ)
    → Type 0
FewMore budget left now old new = FewMoreIn grammars.View budget left now old new

abbrev pub FewMoreLive : ℕ → Option (List ℕ) → Option (List ℕ) → Option (List ℕ) → Option (List ℕ)
    → Type 0
FewMoreLive budget left now old new = FewMoreIn grammars.Live budget left now old new

-- How a command ends: `left` is what the source had left at first and `now` what it has left then,
-- and `old` and `new` what the sink had taken.
abbrev pub Ends : Asked → Result (Unit {0}) CommandFail → Option (List ℕ) → Option (List ℕ)
    → Option (List ℕ) → Option (List ℕ) → Type 0
Ends asks (Ok done) left now old new = IfSome left (λ bytes. Replied asks bytes None old new)
Ends asks (Err (fails.Faulty f)) left now old new =
    IfSome left (λ bytes. Replied asks bytes (Some f) old new)
Ends asks (Err fails.Write) left now old new = IfSome left (λ bytes. CutShort asks bytes old new)
Ends asks (Err fails.Read) left now old new = ReadFails asks left now old new
Ends asks (Err fails.OutOfMemory) left now old new = new ≡ old

-- What the counts of the source and of the sink did then: that of a device that failed rose, and no
-- other did.
abbrev pub Counts : Result (Unit {0}) CommandFail → ℕ → ℕ → ℕ → ℕ → Type 0
Counts (Ok done) in_old in_new out_old out_new = (in_new ≡ in_old) × (out_new ≡ out_old)
Counts (Err (fails.Faulty f)) in_old in_new out_old out_new = (in_new ≡ in_old)
    × (out_new ≡ out_old)
Counts (Err fails.Write) in_old in_new out_old out_new = (in_new ≡ in_old) × Rose out_old out_new
Counts (Err fails.Read) in_old in_new out_old out_new = Rose in_old in_new × (out_new ≡ out_old)
Counts (Err fails.OutOfMemory) in_old in_new out_old out_new = (in_new ≡ in_old)
    × (out_new ≡ out_old)

abbrev pub status_of : CommandFail → ℕ
status_of (fails.Faulty f) = 1
status_of fails.Read = 3
status_of fails.Write = 4
status_of fails.OutOfMemory = 5

-- The status is neither that of a fault of the input nor that of a failed read.
abbrev pub BlamesNoInput : ℕ → Type 0
BlamesNoInput status = (status ≢ 1) × (status ≢ 3)

-- The status of an outcome.
abbrev pub Answers : Option Fault → ℕ → Type 0
Answers None status = status ≡ 0
Answers (Some f) status = status ≡ 1
