-- What `view` does without a fault, `live` does too.
use Rattle.std.proofs.Common.{◌≡◌, refl, ℕ, length, Option, Some, None, Result, Ok, Err, sym, ap}
use Rattle.std.proofs.Common.{◌∙◌}
use Rattle.std.specs.Option.{option_map}
use Rattle.pm_session.specs.declared.command.ScriptFault.{ScriptFault}
use Rattle.pm_session.specs.declared.grammar.Grammar.{Grammar}
use Rattle.pm_session.specs.declared.grammar.Grammar.TheVariants as grammars
use Rattle.pm_session.specs.Script.{at_first}
use Rattle.pm_session.specs.Serving.{played}
use Rattle.pm_session.proofs.GrammarLaws.{live_plays_view_scripts}
use Rattle.pm_format.specs.Stream.{stream}
use Rattle.pm_commands.specs.declared.fault.Fault.{Fault}
use Rattle.pm_commands.specs.Ran.{Ran, line_fault, of_script}
use Rattle.pm_commands.specs.Beginning.{Beginning}
use Rattle.pm_commands.specs.Outcome.{done_with, LiveDoesAsView}

no_fault : (fault : Option ScriptFault) → option_map line_fault fault ≡ None → fault ≡ None
no_fault None none = refl
no_fault (Some f) none = absurd (cc none)

-- What a script does that follows a stream text.
abbrev does : Grammar → ℕ → Beginning → Ran
does grammar budget o =
    of_script (length (stream o.digits o.h)) (played o.h grammar (at_first budget) o.rest)

same : (budget : ℕ) (read : Result Beginning Fault) (place : Option ℕ)
    → (done_with (does grammars.View budget) read place).fault ≡ None
    → done_with (does grammars.View budget) read place
    ≡ done_with (does grammars.Live budget) read place
same budget (Err f) place whole = absurd (cc whole)
same budget (Ok o) place whole =
    ap (of_script (length (stream o.digits o.h)))
    (sym (live_plays_view_scripts o.h (at_first budget) o.rest (no_fault _ whole)))

pub live_does_as_view : LiveDoesAsView
live_does_as_view budget bytes all is whole = record {
  read = is.read;
  place = is.place;
  is = is.is;
  done = is.done ∙ same budget is.read is.place (sym (ap (λ (a : Ran). a.fault) is.done) ∙ whole);
}
