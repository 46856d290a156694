-- What is known of a session as it starts.
use Rattle.std.proofs.Common.{◌≡◌, ℕ, sym, subst}
use Rattle.pm_forest.specs.Forest.{Hierarchy}
use Rattle.pm_session.specs.declared.grammar.Grammar.{Grammar}
use Rattle.pm_session.specs.Script.{at_first}
use Rattle.pm_session.specs.Session.{Shown, state_of}
use Rattle.pm_commands.specs.Started.{IsStarted}

-- It is as it was where it was boxed.
pub started :
    (h : Hierarchy) (grammar : Grammar) (budget : ℕ) (boxed s : Shown) → s ≡ boxed →
    IsStarted h grammar budget boxed →
    (s.h ≡ h) × (s.grammar ≡ grammar) × (state_of s ≡ at_first budget)
unfolding IsStarted
started h grammar budget boxed s same is =
    subst (λ (v : Shown). (v.h ≡ h) × (v.grammar ≡ grammar) × (state_of v ≡ at_first budget))
    (sym same) is
