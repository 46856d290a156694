-- A session as it starts.
use Rattle.std.specs.Prelude.{◌≡◌, ℕ}
use Rattle.pm_forest.specs.Forest.{Hierarchy}
use Rattle.pm_session.specs.declared.grammar.Grammar.{Grammar}
use Rattle.pm_session.specs.Script.{at_first}
use Rattle.pm_session.specs.Session.{Shown, state_of}

-- The session shows the base front of the hierarchy, for a script of this grammar and budget.
unfoldable pub IsStarted : Hierarchy → Grammar → ℕ → Shown → Type 0
IsStarted h grammar budget s =
    (s.h ≡ h) × (s.grammar ≡ grammar) × (state_of s ≡ at_first budget)
