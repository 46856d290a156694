-- What a line of a script can ask for: views by measures that the script has, and the level of
-- detail in `live` alone.
use Rattle.std.proofs.Common.{◌≡◌, ◌≢◌, ℕ, Bool, true, false, cond, List, drop, Option, Some, None}
use Rattle.std.proofs.Common.{refl, sym, ◌∙◌, ap}
use Rattle.pm_view.specs.declared.measure.Measure.TheVariants as measures
use Rattle.pm_view.specs.declared.fields.ViewKind.{ViewKind}
use Rattle.pm_view.specs.declared.fields.ViewKind.TheVariants as kinds
use Rattle.pm_view.specs.Views.{View}
use Rattle.pm_view.specs.Fields.{view_of}
use Rattle.pm_pick.specs.Rays.{Ray}
use Rattle.pm_pick.specs.Fields.{ray_of}
use Rattle.pm_session.specs.declared.command.Command.{Command}
use Rattle.pm_session.specs.declared.command.Command.TheVariants as commands
use Rattle.pm_session.specs.declared.grammar.Grammar.{Grammar}
use Rattle.pm_session.specs.declared.grammar.Grammar.TheVariants as grammars
use Rattle.pm_io.specs.Letters.{letter_v}
use Rattle.pm_session.specs.Letters.{letter_c, letter_g, letter_k, letter_m, letter_p, letter_q}
use Rattle.pm_session.specs.Letters.{letter_s, letter_t, letter_w}
use Rattle.pm_session.specs.Script.{is_one_letter, begins_with, begins_with_both, split_of}
use Rattle.pm_session.specs.Script.{collapse_of, look_of, pick_by, two_of, morph_by, number_in}
use Rattle.pm_session.specs.Script.{fields_command, view_command, command_of, has_measure}
use Rattle.pm_session.proofs.MeasureLaws.{read_by_error}

-- The command is one of `view`.
record IsPlain (c : Command) : Type 0 where
  by_error : (view : View) → c ≡ commands.Look view → view.measure ≡ measures.Error
  no_level : c ≢ commands.Level

either_plain : (test : Bool) (a b : Command) → IsPlain a → IsPlain b → IsPlain (cond test a b)
either_plain true a b first second = first
either_plain false a b first second = second

bad_plain : IsPlain commands.Bad
bad_plain = record { by_error = λ view e. absurd (cc e); no_level = λ e. absurd (cc e) }

split_plain : (number : Option ℕ) → IsPlain (split_of number)
split_plain None = bad_plain
split_plain (Some k) = record {
  by_error = λ view e. absurd (cc e);
  no_level = λ e. absurd (cc e);
}

collapse_plain : (number : Option ℕ) → IsPlain (collapse_of number)
collapse_plain None = bad_plain
collapse_plain (Some k) = record {
  by_error = λ view e. absurd (cc e);
  no_level = λ e. absurd (cc e);
}

pick_plain : (ray : Option Ray) → IsPlain (pick_by ray)
pick_plain None = bad_plain
pick_plain (Some ray) = record {
  by_error = λ view e. absurd (cc e);
  no_level = λ e. absurd (cc e);
}

morph_plain : (two : Option (ℕ × ℕ)) → IsPlain (morph_by two)
morph_plain None = bad_plain
morph_plain (Some two) = record {
  by_error = λ view e. absurd (cc e);
  no_level = λ e. absurd (cc e);
}

look_plain : (kind : ViewKind) (text : List ℕ) (view : Option View) → view_of kind text ≡ view
    → IsPlain (look_of view)
look_plain kind text None is = bad_plain
look_plain kind text (Some read) is = record {
  by_error = λ view e. let same : read ≡ view = cc e in
      ap (λ (v : View). v.measure) (sym same) ∙ read_by_error kind text read is;
  no_level = λ e. absurd (cc e);
}

fields_plain : (line : List ℕ) → IsPlain (fields_command line)
unfolding fields_command
fields_plain line =
    either_plain (begins_with letter_s line) _ _ (split_plain (number_in line))
    (either_plain (begins_with letter_c line) _ _ (collapse_plain (number_in line))
    (either_plain (begins_with letter_v line) _ _ (look_plain kinds.Plain (drop 2 line) _ refl)
    (either_plain (begins_with_both letter_v letter_s line) _ _
    (look_plain kinds.Outline (drop 3 line) _ refl)
    (either_plain (begins_with letter_p line) _ _ (pick_plain (ray_of (drop 2 line)))
    (either_plain (begins_with letter_g line) _ _ (morph_plain (two_of (drop 2 line)))
    bad_plain)))))

view_plain : (line : List ℕ) → IsPlain (view_command line)
unfolding view_command
view_plain line =
    either_plain (is_one_letter letter_w line) _ _
    (record { by_error = λ view e. absurd (cc e); no_level = λ e. absurd (cc e) })
    (either_plain (is_one_letter letter_m line) _ _
    (record { by_error = λ view e. absurd (cc e); no_level = λ e. absurd (cc e) })
    (either_plain (is_one_letter letter_t line) _ _
    (record { by_error = λ view e. absurd (cc e); no_level = λ e. absurd (cc e) })
    (either_plain (is_one_letter letter_q line) _ _
    (record { by_error = λ view e. absurd (cc e); no_level = λ e. absurd (cc e) })
    (either_plain (is_one_letter letter_k line) _ _
    (record { by_error = λ view e. absurd (cc e); no_level = λ e. absurd (cc e) })
    (fields_plain line)))))

-- A view is judged by what the script has,
pub looks_by : (grammar : Grammar) (line : List ℕ) (view : View)
    → command_of grammar line ≡ commands.Look view → has_measure grammar view.measure ≡ true
looks_by grammars.View line view is =
    ap (has_measure grammars.View) ((view_plain line).by_error view is)
looks_by grammars.Live line view is = refl

-- and the level is told in `live`.
pub level_in : (grammar : Grammar) (line : List ℕ) → command_of grammar line ≡ commands.Level
    → grammar ≡ grammars.Live
level_in grammars.View line is = absurd ((view_plain line).no_level is)
level_in grammars.Live line is = refl
