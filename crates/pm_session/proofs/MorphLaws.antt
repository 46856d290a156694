-- The state at first, what the lines `k` and `g A B` do, and how a geomorph is told.
use Rattle.std.proofs.Common.{◌≡◌, ℕ, ◌<◌, ◌≤◌, Bool, true, false, List, None, refl, ap, ◌∙◌, leb}
use Rattle.std.proofs.Common.{◌&&◌}
use Rattle.std.proofs.lemmas.Bool.{leb-true, and_parts}
use Rattle.pm_forest.specs.Forest.{Hierarchy}
use Rattle.pm_forest.specs.Fronts.{no_records}
use Rattle.pm_change.specs.Texts.{change_text}
use Rattle.pm_session.specs.declared.command.Command.TheVariants as commands
use Rattle.pm_session.specs.declared.grammar.Grammar.{Grammar}
use Rattle.pm_session.specs.Script.{command_of, reply_to, State, at_first, is_fraction, morph_reply}
use Rattle.pm_session.specs.Script.{Replies, IsBad, line_deed}

abbrev as_state : (ℕ → Bool) → (ℕ → Bool) → ℕ → State
as_state S M B = record { split = S; marked = M; budget = B }

pub base_state : (s : State) (n : ℕ) → s.split ≡ no_records → s.marked ≡ no_records → s.budget ≡ n
    → s ≡ at_first n
base_state s n none base budget =
    ap (λ (S : ℕ → Bool). as_state S s.marked s.budget) none
    ∙ ap (λ (M : ℕ → Bool). as_state no_records M s.budget) base
    ∙ ap (λ (B : ℕ). as_state no_records no_records B) budget

-- What the lines do.
module _ (h : Hierarchy) (grammar : Grammar) (s : State) (line : List ℕ) where
  pub deed_mark : (S M : ℕ → Bool) (B : ℕ) → command_of grammar line ≡ commands.Mark → S ≡ s.split
      → M ≡ s.split → B ≡ s.budget
      → line_deed h grammar s line
      ≡ Replies (reply_to None) (record { split = S; marked = M; budget = B })
  unfolding line_deed
  deed_mark S M B is same marked kept = rw (is, same, marked, kept) refl

  pub deed_change : (S M : ℕ → Bool) (B : ℕ) → command_of grammar line ≡ commands.Change
      → S ≡ s.split → M ≡ s.split → B ≡ s.budget
      → line_deed h grammar s line
      ≡ Replies (change_text h s.marked s.split) (record { split = S; marked = M; budget = B })
  unfolding line_deed
  deed_change S M B is same marked kept = rw (is, same, marked, kept) refl

  pub deed_budget : (S M : ℕ → Bool) (B n : ℕ) → command_of grammar line ≡ commands.Budget n
      → S ≡ s.split → M ≡ s.marked → B ≡ n
      → line_deed h grammar s line
      ≡ Replies (reply_to None) (record { split = S; marked = M; budget = B })
  unfolding line_deed
  deed_budget S M B n is same marked set = rw (is, same, marked, set) refl

  pub deed_morph : (x y : ℕ) → command_of grammar line ≡ commands.Morph x y → is_fraction x y ≡ true
      → line_deed h grammar s line ≡ Replies (morph_reply h s.marked s.split x y) s
  unfolding line_deed
  deed_morph x y is fraction = rw (is, fraction) refl

  pub deed_no_fraction : (x y : ℕ) → command_of grammar line ≡ commands.Morph x y
      → is_fraction x y ≡ false → line_deed h grammar s line ≡ IsBad
  unfolding line_deed
  deed_no_fraction x y is fraction = rw (is, fraction) refl

pub record IsFraction (a b : ℕ) : Type 0 where
  pub some : 0 < b
  pub most : b ≤ 65535
  pub within : a ≤ b

pub fraction_parts : (a b : ℕ) → is_fraction a b ≡ true → IsFraction a b
unfolding is_fraction
fraction_parts a b e =
    let p = and_parts (leb 1 b && leb b 65535) (leb a b) e in
    let q = and_parts (leb 1 b) (leb b 65535) p.0 in
    record { some = leb-true 1 b q.0; most = leb-true b 65535 q.1; within = leb-true a b p.1 }
