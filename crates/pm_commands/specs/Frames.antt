-- What frames show: whatever a script does, and whatever was built.
use Rattle.std.specs.Prelude.{ℕ, Bool, List, ◌++◌, length, Option, None, Result, Ok}
use Rattle.pm_base.specs.Fans.{IsOrientedManifold}
use Rattle.pm_io.specs.Bytes.{Gains}
use Rattle.pm_forest.specs.Forest.{Hierarchy}
use Rattle.pm_beyond.specs.Valid.{IsValid}
use Rattle.pm_beyond.specs.Moves.{IsClosed}
use Rattle.pm_firm.specs.Firm.{shown_net}
use Rattle.pm_session.specs.declared.grammar.Grammar.{Grammar}
use Rattle.pm_session.specs.declared.grammar.Grammar.TheVariants as grammars
use Rattle.pm_session.specs.Script.{State, at_first}
use Rattle.pm_session.specs.Serving.{played}
use Rattle.pm_format.specs.Stream.{stream}
use Rattle.pm_commands.specs.declared.asked.Asked.TheVariants as asked
use Rattle.pm_commands.specs.declared.fault.Fault.{Fault}
use Rattle.pm_commands.specs.Ran.{of_script}
use Rattle.pm_commands.specs.Build.{IsBuilt}
use Rattle.pm_commands.specs.Outcome.{IsOutcome}

-- A script leads from a closed set of split records to a closed set, and where the marked records
-- were closed too they are closed after it.
abbrev pub ScriptsKeepSetsClosed : Type 0
ScriptsKeepSetsClosed =
    (h : Hierarchy) → IsValid h → (grammar : Grammar) (s : State) → IsClosed h s.split
    → (script : List ℕ)
    → IsClosed h (played h grammar s script).state.split
    × (IsClosed h s.marked → IsClosed h (played h grammar s script).state.marked)

-- The sink gained the stream text of the hierarchy that is made of the bytes. `view` and `live`
-- play on it the script that follows, and a `w` after any lines shows an oriented manifold, as
-- every closed set of split records does.
pub record ShowsSurfacesOf
    (IsMade : List ℕ → Result Hierarchy Fault → Option ℕ → Type 0) (digits : ℕ) (bytes : List ℕ)
    (old new : Option (List ℕ)) : Type 0 where
  pub h : Hierarchy
  pub built : IsMade bytes (Ok h) None
  pub gained : Gains old new (stream digits h)
  pub views :
      (budget : ℕ) (script : List ℕ)
      → IsOutcome (asked.View budget) (stream digits h ++ script)
      (of_script (length (stream digits h)) (played h grammars.View (at_first budget) script))
  pub lives :
      (budget : ℕ) (script : List ℕ)
      → IsOutcome (asked.Live budget) (stream digits h ++ script)
      (of_script (length (stream digits h)) (played h grammars.Live (at_first budget) script))
  pub frames : (grammar : Grammar) (budget : ℕ) (front : List ℕ)
      → IsOrientedManifold (shown_net h (played h grammar (at_first budget) front).state.split)
  pub fronts : (T : ℕ → Bool) → IsClosed h T → IsOrientedManifold (shown_net h T)

-- So it is with what was built.
abbrev pub ShowsSurfaces : ℕ → ℕ → List ℕ → Option (List ℕ) → Option (List ℕ) → Type 0
ShowsSurfaces target digits = ShowsSurfacesOf (IsBuilt target digits) digits
