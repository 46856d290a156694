-- A line that is too long, and one that isn't.
use Rattle.std.proofs.Common.{◌≡◌, ℕ, ◌<◌, ◌≤◌, List, length, [], Some, Result, Err, refl, sym, ap}
use Rattle.std.proofs.Common.{◌∙◌, subst}
use Rattle.std.proofs.lemmas.Bool.{lt-ltb, le-ltb}
use Rattle.pm_forest.specs.Forest.{Hierarchy}
use Rattle.pm_session.specs.declared.grammar.Grammar.{Grammar}
use Rattle.pm_session.specs.declared.grammar.Grammar.TheVariants as grammars
use Rattle.pm_session.specs.declared.ending.Next.{Next}
use Rattle.pm_session.specs.declared.ending.LineFail.{LineFail}
use Rattle.pm_session.specs.declared.ending.LineFail.TheVariants as fails
use Rattle.pm_session.specs.Script.{State, Deed, IsBad, line_deed}
use Rattle.pm_session.specs.Session.{LineEnds}
use Rattle.pm_session.proofs.Deeds.{bad}
use Rattle.pm_viewer.specs.Viewing.{Replied, no_reply, live_deed}

long_is_bad : (h : Hierarchy) (s : State) (line : List ℕ) → 1024 < length line
    → live_deed h s line ≡ IsBad
unfolding live_deed
long_is_bad h s line long = rw (lt-ltb 1024 (length line) long) refl

short_is_done : (h : Hierarchy) (s : State) (line : List ℕ) → length line ≤ 1024
    → live_deed h s line ≡ line_deed h grammars.Live s line
unfolding live_deed
short_is_done h s line short = rw (le-ltb 1024 (length line) short) refl

pub line_refused : (h : Hierarchy) (s : State) (line : List ℕ) (r : Replied)
    → 1024 < length line → r ≡ no_reply
    → LineEnds (live_deed h s line) (Err fails.BadLine) s s (Some []) (Some r.got)
line_refused h s line r long empty = rw empty (bad (live_deed h s line) s (Some [])
    (long_is_bad h s line long))

pub line_done : (h : Hierarchy) (grammar : Grammar) (s t : State) (line : List ℕ)
    (old new : Replied) (result : Result Next LineFail)
    → length line ≤ 1024 → grammar ≡ grammars.Live → old ≡ no_reply
    → LineEnds (line_deed h grammar s line) result s t (Some old.got) (Some new.got)
    → LineEnds (live_deed h s line) result s t (Some []) (Some new.got)
line_done h grammar s t line old new result short live empty ends =
    let deed : line_deed h grammar s line ≡ live_deed h s line = ap
    (λ g. line_deed h g s line) live ∙ sym (short_is_done h s line short) in
    let one = subst (λ (d : Deed). LineEnds d result s t (Some old.got) (Some new.got)) deed ends in
    subst (λ (r : Replied). LineEnds (live_deed h s line) result s t (Some r.got)
    (Some new.got)) empty one
