-- What a command writes, and how a script's end is one of a command.
use Rattle.std.specs.Prelude.{List, [], ℕ, ◌+◌, Option, Some, None}
use Rattle.std.specs.Option.{option_map}
use Rattle.pm_session.specs.declared.command.ScriptFault.{ScriptFault}
use Rattle.pm_session.specs.declared.command.ScriptFault.TheVariants as lines
use Rattle.pm_session.specs.declared.fail.ServeFail.{ServeFail}
use Rattle.pm_session.specs.declared.fail.ServeFail.TheVariants as serves
use Rattle.pm_session.specs.Serving.{Played}
use Rattle.pm_commands.specs.declared.fault.Fault.{Fault}
use Rattle.pm_commands.specs.declared.fault.Fault.TheVariants as faults
use Rattle.pm_commands.specs.declared.fault.CommandFail.{CommandFail}
use Rattle.pm_commands.specs.declared.fault.CommandFail.TheVariants as fails

-- The text that is written; the fault that ends it, if one does; and its place: how many bytes of
-- the input decide all that, where it isn't the end of the input that does.
pub record Ran : Type 0 where
  pub text : List ℕ
  pub fault : Option Fault
  pub place : Option ℕ

-- Nothing is written but the fault.
abbrev pub refused : Fault → Option ℕ → Ran
refused f place = record { text = []; fault = Some f; place = place }

-- All of the text is written, and the end of the input decides that.
abbrev pub whole_output : List ℕ → Ran
whole_output text = record { text = text; fault = None; place = None }

-- All of the text is written, and no byte of the input decides that.
abbrev pub unread : List ℕ → Ran
unread text = record { text = text; fault = None; place = Some 0 }

-- The fault of a script is one of the input.
abbrev pub line_fault : ScriptFault → Fault
line_fault (lines.BadLine n) = faults.BadLine n
line_fault (lines.NoRecord n) = faults.NoRecord n
line_fault lines.TooLong = faults.ScriptTooLong

-- What a script does that begins after so many bytes.
abbrev pub of_script : ℕ → Played → Ran
of_script before p = record {
  text = p.text;
  fault = option_map line_fault p.fault;
  place = option_map (λ n. before + n) p.place;
}

-- A command ends as the serving of its script does.
abbrev pub serve_fail : ServeFail → CommandFail
serve_fail (serves.BadLine n) = fails.Faulty (faults.BadLine n)
serve_fail (serves.NoRecord n) = fails.Faulty (faults.NoRecord n)
serve_fail serves.ScriptTooLong = fails.Faulty faults.ScriptTooLong
serve_fail serves.Read = fails.Read
serve_fail serves.Write = fails.Write
