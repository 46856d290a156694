-- What a program is asked for beside its work: a text that tells of the program.
use Rattle.std.specs.Prelude.{◌≡◌, ◌⊎◌, ℕ, nat_eq, List, ◌++◌, Option, Some, None, if◌then◌else◌}
use Rattle.std.specs.Prelude.{codes}
use Rattle.std.specs.Cmp.Lexicographic.{pointwise}
use Rattle.pm_io.specs.declared.device.Source as source
use Rattle.pm_io.specs.declared.device.Sink as sink
use Rattle.pm_io.specs.Bytes.{Gains, GainsPart}
use Rattle.pm_io.specs.Causes.{Rose}
use Rattle.pm_io.specs.Devices.{Unread}
use Rattle.pm_io.specs.Endings.{SaysEnding}
use Rattle.pm_program.specs.declared.request.Request.{Request}
use Rattle.pm_program.specs.declared.request.Request.TheVariants as requests

-- The text that a word alone asks for, if it asks for one.
abbrev pub text_asked : {W : Type 0} → List ℕ → Option (Request W)
text_asked word =
    if pointwise nat_eq word (codes "--help") then Some requests.Help
    else if pointwise nat_eq word (codes "--version") then Some requests.Version
    else None

-- The name and the version of a program.
unfoldable pub version_text : List ℕ → List ℕ
version_text program = program
    ++ codes " 1.3.0, of the proved sources; the script beside it tells whether it is proved\n"

-- The text was put with status 0. With status 4 a write failed, which was counted and said, and a
-- proper part of the text was put.
pub record PutsText {K E : Type 0} (k : sink.Ghosts K) (e : sink.Ghosts E) (program text : List ℕ)
    (status : ℕ) (out out_now : K) (err err_now : E) : Type 0 where
  pub either : (status ≡ 0) ⊎ (status ≡ 4)
  pub whole : status ≡ 0 → Gains (k.got out) (k.got out_now) text
  pub part : status ≡ 4 → GainsPart (k.got out) (k.got out_now) text
  pub same : status ≡ 0 → k.faults out_now ≡ k.faults out
  pub rose : status ≡ 4 → Rose (k.faults out) (k.faults out_now)
  pub said : SaysEnding e program status err err_now

-- The same, and nothing was read.
pub record TellsText {S K E : Type 0} (s : source.Ghosts S) (k : sink.Ghosts K)
    (e : sink.Ghosts E) (program text : List ℕ) (status : ℕ) (input input_now : S)
    (out out_now : K) (err err_now : E) : Type 0 where
  pub unread : Unread s input input_now
  pub puts : PutsText k e program text status out out_now err err_now

-- Where a text was asked for, it was put: this help, or the version.
pub record TellsTexts {S K E W : Type 0} (s : source.Ghosts S) (k : sink.Ghosts K)
    (e : sink.Ghosts E) (program help_text : List ℕ) (asked : Option (Request W)) (status : ℕ)
    (input input_now : S) (out out_now : K) (err err_now : E) : Type 0 where
  pub help : asked ≡ Some requests.Help
      → TellsText s k e program help_text status input input_now out out_now err err_now
  pub version : asked ≡ Some requests.Version
      → TellsText s k e program (version_text program) status input input_now out out_now err
      err_now
