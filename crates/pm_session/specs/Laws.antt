-- The laws of script lines, as statements. `script_lines_are_sound` has them as its clauses.
use Rattle.std.specs.Prelude.{◌≡◌, ◌≢◌, ℕ, ◌<◌, List, length, None}
use Rattle.pm_forest.specs.Forest.{Hierarchy}
use Rattle.pm_session.specs.declared.grammar.Grammar.{Grammar}
use Rattle.pm_session.specs.declared.grammar.Grammar.TheVariants as grammars
use Rattle.pm_session.specs.declared.command.Command.TheVariants as commands
use Rattle.pm_session.specs.Script.{State, command_of}
use Rattle.pm_session.specs.Serving.{played}

-- A line of more than 1,024 bytes is none of the forms.
abbrev pub LongLinesAreBad : Type 0
LongLinesAreBad = (grammar : Grammar) (line : List ℕ) → 1024 < length line
    → command_of grammar line ≡ commands.Bad

-- A line of `view` asks for the same in `live`.
abbrev pub LiveHasViewLines : Type 0
LiveHasViewLines =
    (line : List ℕ) → command_of grammars.View line ≢ commands.Bad
    → command_of grammars.Live line ≡ command_of grammars.View line

-- So a script that has no fault in `view` does the same in `live`, from whatever state.
abbrev pub LivePlaysViewScripts : Type 0
LivePlaysViewScripts =
    (h : Hierarchy) (s : State) (script : List ℕ) → (played h grammars.View s script).fault ≡ None
    → played h grammars.Live s script ≡ played h grammars.View s script
