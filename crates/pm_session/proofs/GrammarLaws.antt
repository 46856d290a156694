-- A script of `view` without a fault does the same in `live`.
use Rattle.std.proofs.Common.{◌≡◌, ◌≢◌, ℕ, Bool, true, false, eqb, leb, ◌&&◌, List, []}
use Rattle.std.proofs.Common.{◌∷◌, length, Option, None, slice_index_or, inl, inr, refl}
use Rattle.std.proofs.Common.{◌∙◌, ap, subst}
use Rattle.std.proofs.lemmas.Bool.{cases_Bool, and_parts, eqb-true}
use Rattle.obj_lines.specs.Text.{until, lines}
use Rattle.pm_forest.specs.Forest.{Hierarchy}
use Rattle.pm_session.specs.declared.command.Command.TheVariants as commands
use Rattle.pm_session.specs.declared.command.ScriptFault.{ScriptFault}
use Rattle.pm_session.specs.declared.grammar.Grammar.TheVariants as grammars
use Rattle.pm_io.specs.Letters.{letter_v, space}
use Rattle.pm_session.specs.Letters.{letter_b, letter_c, letter_d, letter_g, letter_k, letter_l}
use Rattle.pm_session.specs.Letters.{letter_m, letter_p, letter_q, letter_s, letter_t}
use Rattle.pm_session.specs.Letters.{letter_w}
use Rattle.pm_session.specs.Script.{is_one_letter, begins_with, begins_with_both, begins_with_three}
use Rattle.pm_session.specs.Script.{fields_command, view_command, live_command, State, Deed}
use Rattle.pm_session.specs.Script.{Replies, Ends, IsBad, NamesNoRecord, deed_of, line_deed}
use Rattle.pm_session.specs.Serving.{At, Played, after_reply, is_past_script, is_script_line_long}
use Rattle.pm_session.specs.Serving.{done_line, play_line, played_from, played}
use Rattle.pm_session.specs.Laws.{LiveHasViewLines, LivePlaysViewScripts}

and_no : (a b : Bool) → b ≡ false → a && b ≡ false
and_no true b fails = fails
and_no false b fails = refl

-- No line of `view` begins with this letter.
record IsOther (letter : ℕ) : Type 0 where
  w : eqb letter letter_w ≡ false
  m : eqb letter letter_m ≡ false
  t : eqb letter letter_t ≡ false
  q : eqb letter letter_q ≡ false
  k : eqb letter letter_k ≡ false
  s : eqb letter letter_s ≡ false
  c : eqb letter letter_c ≡ false
  v : eqb letter letter_v ≡ false
  p : eqb letter letter_p ≡ false
  g : eqb letter letter_g ≡ false

module _ (line : List ℕ) (letter : ℕ) (begins : slice_index_or line 0 0 ≡ letter) where
  no_letter : (other : ℕ) → eqb letter other ≡ false → is_one_letter other line ≡ false
  no_letter other differs = and_no _ _ (ap (λ (n : ℕ). eqb n other) begins ∙ differs)

  no_begin : (other : ℕ) → eqb letter other ≡ false → begins_with other line ≡ false
  no_begin other differs =
      ap (λ (b : Bool). b && eqb (slice_index_or line 1 0) space)
      (and_no (leb 2 (length line)) _ (ap (λ (n : ℕ). eqb n other) begins ∙ differs))

  no_both : (first second : ℕ) → eqb letter first ≡ false → begins_with_both first second line
      ≡ false
  no_both first second differs =
      ap (λ (b : Bool). (b && eqb (slice_index_or line 1 0) second) && eqb (slice_index_or line 2 0)
      space)
      (and_no (leb 3 (length line)) _ (ap (λ (n : ℕ). eqb n first) begins ∙ differs))

  other_bad : IsOther letter → view_command line ≡ commands.Bad
  unfolding view_command fields_command
  other_bad o =
      rw (
        no_letter letter_w o.w,
        no_letter letter_m o.m,
        no_letter letter_t o.t,
        no_letter letter_q o.q,
        no_letter letter_k o.k,
      )
      (rw (
        no_begin letter_s o.s,
        no_begin letter_c o.c,
        no_begin letter_v o.v,
        no_both letter_v letter_s o.v,
        no_begin letter_p o.p,
        no_begin letter_g o.g,
      ) refl)

-- `vd` and `vds` stand before other bytes than those that `v` and `vs` do.
module _ (line : List ℕ) (begins : slice_index_or line 0 0 ≡ letter_v)
    (goes_on : slice_index_or line 1 0 ≡ letter_d) where
  no_second : (first second : ℕ) → eqb letter_d second ≡ false → begins_with_both first second line
      ≡ false
  no_second first second differs =
      ap (λ (b : Bool). b && eqb (slice_index_or line 2 0) space)
      (and_no (leb 3 (length line) && eqb (slice_index_or line 0 0) first) _
      (ap (λ (n : ℕ). eqb n second) goes_on ∙ differs))

  v_no_begin : begins_with letter_v line ≡ false
  v_no_begin =
      and_no (leb 2 (length line) && eqb (slice_index_or line 0 0) letter_v) _
      (ap (λ (n : ℕ). eqb n space) goes_on)

  v_no_letter : (other : ℕ) → eqb letter_v other ≡ false → is_one_letter other line ≡ false
  v_no_letter = no_letter line letter_v begins

  v_other : (other : ℕ) → eqb letter_v other ≡ false → begins_with other line ≡ false
  v_other = no_begin line letter_v begins

  by_deviation_bad : view_command line ≡ commands.Bad
  unfolding view_command fields_command
  by_deviation_bad =
      rw (
        v_no_letter letter_w refl,
        v_no_letter letter_m refl,
        v_no_letter letter_t refl,
        v_no_letter letter_q refl,
        v_no_letter letter_k refl,
      )
      (rw (
        v_other letter_s refl,
        v_other letter_c refl,
        v_no_begin,
        no_second letter_v letter_s refl,
        v_other letter_p refl,
        v_other letter_g refl,
      ) refl)

first_of_one : (letter : ℕ) (line : List ℕ) → is_one_letter letter line ≡ true
    → slice_index_or line 0 0 ≡ letter
first_of_one letter line is = eqb-true _ _ (and_parts _ _ is).1

first_of_fields : (letter : ℕ) (line : List ℕ) → begins_with letter line ≡ true
    → slice_index_or line 0 0 ≡ letter
first_of_fields letter line is = eqb-true _ _ (and_parts _ _ (and_parts _ _ is).0).1

first_of_both : (first second : ℕ) (line : List ℕ) → begins_with_both first second line ≡ true
    → slice_index_or line 0 0 ≡ first
first_of_both first second line is =
    eqb-true _ _ (and_parts _ _ (and_parts _ _ (and_parts _ _ is).0).0).1

second_of_both : (first second : ℕ) (line : List ℕ) → begins_with_both first second line ≡ true
    → slice_index_or line 1 0 ≡ second
second_of_both first second line is = eqb-true _ _ (and_parts _ _ (and_parts _ _ is).0).1

first_of_three : (first second third : ℕ) (line : List ℕ)
    → begins_with_three first second third line ≡ true → slice_index_or line 0 0 ≡ first
first_of_three first second third line is =
    eqb-true _ _ (and_parts _ _ (and_parts _ _ (and_parts _ _ (and_parts _ _ is).0).0).0).1

second_of_three : (first second third : ℕ) (line : List ℕ)
    → begins_with_three first second third line ≡ true → slice_index_or line 1 0 ≡ second
second_of_three first second third line is =
    eqb-true _ _ (and_parts _ _ (and_parts _ _ (and_parts _ _ is).0).0).1

is_other_d : IsOther letter_d
is_other_d = record {
  w = refl;
  m = refl;
  t = refl;
  q = refl;
  k = refl;
  s = refl;
  c = refl;
  v = refl;
  p = refl;
  g = refl;
}

is_other_l : IsOther letter_l
is_other_l = record {
  w = refl;
  m = refl;
  t = refl;
  q = refl;
  k = refl;
  s = refl;
  c = refl;
  v = refl;
  p = refl;
  g = refl;
}

is_other_b : IsOther letter_b
is_other_b = record {
  w = refl;
  m = refl;
  t = refl;
  q = refl;
  k = refl;
  s = refl;
  c = refl;
  v = refl;
  p = refl;
  g = refl;
}

as_view : (line : List ℕ) → is_one_letter letter_d line ≡ false
    → is_one_letter letter_l line ≡ false → begins_with letter_b line ≡ false
    → begins_with_both letter_v letter_d line ≡ false
    → begins_with_three letter_v letter_d letter_s line ≡ false
    → live_command line ≡ view_command line
unfolding live_command
as_view line not_d not_l not_b not_vd not_vds = rw (not_d, not_l, not_b, not_vd, not_vds) refl

pub live_has_view_lines : LiveHasViewLines
live_has_view_lines line some =
    elim (cases_Bool (is_one_letter letter_d line)) [
      | inl d ↦ absurd (some (other_bad line letter_d (first_of_one letter_d line d) is_other_d))
      | inr not_d ↦ elim (cases_Bool (is_one_letter letter_l line)) [
        | inl l ↦ absurd (some (other_bad line letter_l (first_of_one letter_l line l) is_other_l))
        | inr not_l ↦ elim (cases_Bool (begins_with letter_b line)) [
          | inl b ↦ absurd
              (some (other_bad line letter_b (first_of_fields letter_b line b) is_other_b))
          | inr not_b ↦ elim (cases_Bool (begins_with_both letter_v letter_d line)) [
            | inl vd ↦ absurd
                (some (by_deviation_bad line (first_of_both letter_v letter_d line vd)
                (second_of_both letter_v letter_d line vd)))
            | inr not_vd ↦ elim (cases_Bool (begins_with_three letter_v letter_d letter_s line)) [
              | inl vds ↦ absurd
                  (some (by_deviation_bad line (first_of_three letter_v letter_d letter_s line vds)
                  (second_of_three letter_v letter_d letter_s line vds)))
              | inr not_vds ↦ as_view line not_d not_l not_b not_vd not_vds
            ]
          ]
        ]
      ]
    ]

deed_alike : (h : Hierarchy) (s : State) (line : List ℕ) → line_deed h grammars.View s line ≢ IsBad
    → line_deed h grammars.Live s line ≡ line_deed h grammars.View s line
unfolding line_deed
deed_alike h s line good =
    ap (deed_of h s) (live_has_view_lines line (λ bad. good (ap (deed_of h s) bad)))

done_alike : (s : At) (line : List ℕ) (deed : Deed) (live view : At → Played)
    → ((t : At) → (view t).fault ≡ None → live t ≡ view t) → (done_line s line deed view).fault
    ≡ None
    → done_line s line deed live ≡ done_line s line deed view
done_alike s line (Replies reply T) live view later good = ap (after_reply reply) (later _ good)
done_alike s line Ends live view later good = refl
done_alike s line IsBad live view later good = absurd cc
done_alike s line NamesNoRecord live view later good = absurd cc

play_alike : (h : Hierarchy) (s : At) (line : List ℕ) (live view : At → Played) (past long : Bool)
    → is_past_script s.bytes (length line) ≡ past → is_script_line_long line ≡ long
    → ((t : At) → (view t).fault ≡ None → live t ≡ view t)
    → (play_line h grammars.View s line view).fault ≡ None
    → play_line h grammars.Live s line live ≡ play_line h grammars.View s line view
unfolding play_line
play_alike h s line live view true long past_is long_is later good = let e =
    rw past_is at good in absurd (cc e)
play_alike h s line live view false true past_is long_is later good = let e =
    rw (past_is, long_is) at good in absurd (cc e)
play_alike h s line live view false false past_is long_is later good =
    let text = until 10 line in
    let fine : (done_line s line (line_deed h grammars.View s.state text) view).fault ≡ None =
    rw (past_is, long_is) at good in
    let some : line_deed h grammars.View s.state text ≢ IsBad = λ bad.
    let e : ◌≡◌ {A = Option ScriptFault} (done_line s line IsBad view).fault None =
    subst (λ (d : Deed). (done_line s line d view).fault ≡ None) bad fine in absurd (cc e) in
    rw (past_is, long_is)
    (ap (λ (d : Deed). done_line s line d live) (deed_alike h s.state text some)
    ∙ done_alike s line (line_deed h grammars.View s.state text) live view later fine)

from_alike : (h : Hierarchy) (s : At) (ls : List (List ℕ))
    → (played_from h grammars.View s ls).fault ≡ None
    → played_from h grammars.Live s ls ≡ played_from h grammars.View s ls
from_alike h s [] good = refl
from_alike h s (l ∷ ls) good =
    play_alike h s l (λ t. played_from h grammars.Live t ls) (λ t. played_from h grammars.View t ls)
    _ _ refl refl (λ t fine. from_alike h t ls fine) good

pub live_plays_view_scripts : LivePlaysViewScripts
unfolding played
live_plays_view_scripts h s script good = from_alike h _ (lines script) good
