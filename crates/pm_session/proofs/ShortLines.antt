-- The forms of a script line are short.
use Rattle.std.proofs.Common.{◌≡◌, ℕ, ◌<◌, ◌≤◌, Bool, true, false}
use Rattle.std.proofs.Common.{cond, eqb, List, Option, Some, None}
use Rattle.std.proofs.Common.{length, drop, refl, arith}
use Rattle.std.specs.Option.{option_map}
use Rattle.std.proofs.lemmas.Bool.{ne_eqb}
use Rattle.std.proofs.lemmas.List.{length-drop}
use Rattle.pm_view.specs.Views.{View, by_deviation}
use Rattle.pm_view.specs.declared.fields.ViewKind.{ViewKind}
use Rattle.pm_view.specs.declared.fields.ViewKind.TheVariants as kinds
use Rattle.pm_view.specs.Fields.{spaced_fields}
use Rattle.pm_view.specs.Fields.{view_of}
use Rattle.pm_pick.specs.Rays.{Ray}
use Rattle.pm_pick.specs.Fields.{ray_of}
use Rattle.pm_session.specs.declared.command.Command.{Command}
use Rattle.pm_session.specs.declared.command.Command.TheVariants as commands
use Rattle.pm_session.specs.declared.grammar.Grammar.{Grammar}
use Rattle.pm_session.specs.declared.grammar.Grammar.TheVariants as grammars
use Rattle.pm_io.specs.Letters.{letter_v}
use Rattle.pm_session.specs.Letters.{letter_b, letter_c, letter_d, letter_g, letter_p, letter_s}
use Rattle.pm_session.specs.Script.{begins_with, begins_with_both, begins_with_three, split_of}
use Rattle.pm_session.specs.Script.{collapse_of, look_of, pick_by, two_of, budget_by}
use Rattle.pm_session.specs.Script.{morph_by, number_in, fields_command, view_command, live_command}
use Rattle.pm_session.specs.Script.{command_of}
use Rattle.pm_session.proofs.ShortFields.{unsigned_few, fields_width, view_few, ray_few, two_few}

either_bad : (test : Bool) (a b : Command) → a ≡ commands.Bad → b ≡ commands.Bad
    → cond test a b ≡ commands.Bad
either_bad true a b first second = first
either_bad false a b first second = second

split_bad : (line : List ℕ) → 1024 < length line → (number : Option ℕ) → number_in line ≡ number
    → split_of number ≡ commands.Bad
split_bad line long None is = refl
split_bad line long (Some k) is =
    absurd (omega (
      arith,
      long,
      length-drop 2 line,
      unsigned_few 4294967295 k (drop 2 line)
          (omega arith) is,
    ))

collapse_bad : (line : List ℕ) → 1024 < length line → (number : Option ℕ) → number_in line ≡ number
    → collapse_of number ≡ commands.Bad
collapse_bad line long None is = refl
collapse_bad line long (Some k) is =
    absurd (omega (
      arith,
      long,
      length-drop 2 line,
      unsigned_few 4294967295 k (drop 2 line)
          (omega arith) is,
    ))

budget_bad : (line : List ℕ) → 1024 < length line → (number : Option ℕ) → number_in line ≡ number
    → budget_by number ≡ commands.Bad
budget_bad line long None is = refl
budget_bad line long (Some k) is =
    absurd (omega (
      arith,
      long,
      length-drop 2 line,
      unsigned_few 4294967295 k (drop 2 line)
          (omega arith) is,
    ))

-- The fields begin after a few bytes, the line's word and its space.
look_bad : (kind : ViewKind) (n : ℕ) (line : List ℕ) → n ≤ 4 → 1024 < length line
    → (view : Option View) → view_of kind (drop n line) ≡ view → look_of view ≡ commands.Bad
look_bad kind n line le long None is = refl
look_bad kind n line le long (Some view) is =
    absurd (omega (
      arith,
      le,
      long,
      length-drop n line,
      fields_width (drop n line),
      view_few kind (spaced_fields (drop n line)) view is,
    ))

look_by_deviation_bad : (kind : ViewKind) (n : ℕ) (line : List ℕ) → n ≤ 4 → 1024 < length line
    → (view : Option View) → view_of kind (drop n line) ≡ view
    → look_of (option_map by_deviation view) ≡ commands.Bad
look_by_deviation_bad kind n line le long None is = refl
look_by_deviation_bad kind n line le long (Some view) is =
    absurd (omega (
      arith,
      le,
      long,
      length-drop n line,
      fields_width (drop n line),
      view_few kind (spaced_fields (drop n line)) view is,
    ))

pick_bad : (line : List ℕ) → 1024 < length line → (ray : Option Ray) → ray_of (drop 2 line) ≡ ray
    → pick_by ray ≡ commands.Bad
pick_bad line long None is = refl
pick_bad line long (Some ray) is =
    absurd (omega (
      arith,
      long,
      length-drop 2 line,
      fields_width (drop 2 line),
      ray_few (spaced_fields (drop 2 line)) ray is,
    ))

morph_bad : (line : List ℕ) → 1024 < length line → (two : Option (ℕ × ℕ))
    → two_of (drop 2 line) ≡ two → morph_by two ≡ commands.Bad
morph_bad line long None is = refl
morph_bad line long (Some two) is =
    absurd (omega (
      arith,
      long,
      length-drop 2 line,
      fields_width (drop 2 line),
      two_few (spaced_fields (drop 2 line)) two is,
    ))

view_bad : (line : List ℕ) → 1024 < length line → view_command line ≡ commands.Bad
unfolding view_command fields_command
view_bad line long =
    let one : eqb (length line) 1 ≡ false = ne_eqb _ _ (λ e. omega (arith, e, long)) in
    rw one (either_bad (begins_with letter_s line) _ _ (split_bad line long _ refl)
    (either_bad (begins_with letter_c line) _ _ (collapse_bad line long _ refl)
    (either_bad (begins_with letter_v line) _ _
    (look_bad kinds.Plain 2 line (omega arith) long _ refl)
    (either_bad (begins_with_both letter_v letter_s line) _ _
    (look_bad kinds.Outline 3 line (omega arith) long _ refl)
    (either_bad (begins_with letter_p line) _ _ (pick_bad line long _ refl)
    (either_bad (begins_with letter_g line) _ _ (morph_bad line long _ refl) refl))))))

live_bad : (line : List ℕ) → 1024 < length line → live_command line ≡ commands.Bad
unfolding live_command
live_bad line long =
    let one : eqb (length line) 1 ≡ false = ne_eqb _ _ (λ e. omega (arith, e, long)) in
    rw one (either_bad (begins_with letter_b line) _ _ (budget_bad line long _ refl)
    (either_bad (begins_with_both letter_v letter_d line) _ _
    (look_by_deviation_bad kinds.Plain 3 line (omega arith) long _ refl)
    (either_bad (begins_with_three letter_v letter_d letter_s line) _ _
    (look_by_deviation_bad kinds.Outline 4 line (omega arith) long _ refl)
    (view_bad line long))))

pub long_is_bad : (grammar : Grammar) (line : List ℕ) → 1024 < length line
    → command_of grammar line ≡ commands.Bad
long_is_bad grammars.View line long = view_bad line long
long_is_bad grammars.Live line long = live_bad line long
