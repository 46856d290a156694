-- The script machine: what a line asks for, and what it does from a state: which records are split,
-- which are marked, and the budget of moves a view.
use Rattle.std.specs.Prelude.{ℕ, pos, ◌+ℤ◌, ◌-ℤ◌, ◌==◌, ◌&&◌, nat_lt, nat_le, Bool, true}
use Rattle.std.specs.Prelude.{false, is_none, List, [], ◌∷◌, ◌++◌, length, drop, take}
use Rattle.std.specs.Prelude.{slice_index_or, Option, Some, None, if◌then◌else◌, cond, codes}
use Rattle.std.specs.Option.{option_map, option_and_then}
use Rattle.std.specs.Fmt.{decimal, signed_decimal}
use Rattle.pm_io.specs.Digits.{unsigned_of}
use Rattle.pm_forest.specs.Forest.{Hierarchy, record_count}
use Rattle.pm_forest.specs.Fronts.{no_records, with, without}
use Rattle.pm_beyond.specs.declared.moves.MoveFault.{MoveFault}
use Rattle.pm_beyond.specs.declared.moves.MoveFault.TheVariants as moves
use Rattle.pm_beyond.specs.Moves.{split_fault, collapse_fault}
use Rattle.pm_beyond.specs.Plans.{moved_by}
use Rattle.pm_frame.specs.Frame.{frame_text}
use Rattle.pm_morph.specs.declared.limits.TheConstants.{MOST_PARTS}
use Rattle.pm_morph.specs.Elders.{unsplit_of}
use Rattle.pm_morph.specs.Texts.{morph_text}
use Rattle.pm_change.specs.Texts.{change_text}
use Rattle.pm_view.specs.Views.{View, by_deviation}
use Rattle.pm_view.specs.declared.fields.ViewKind.TheVariants as kinds
use Rattle.pm_view.specs.declared.measure.Measure.{Measure}
use Rattle.pm_view.specs.declared.measure.Measure.TheVariants as measures
use Rattle.pm_view.specs.Fields.{spaced_fields, view_of}
use Rattle.pm_refine.specs.declared.refiner.Adapted.{Adapted}
use Rattle.pm_refine.specs.declared.refiner.Adapted.TheVariants as adapted
use Rattle.pm_refine.specs.Adapting.{view_plan, adapted_of}
use Rattle.pm_manifold.specs.Measure.{nodes_shown, edges_shown, faces_shown, loops_shown}
use Rattle.pm_strips.specs.Shown.{strips_text}
use Rattle.pm_pick.specs.declared.hits.Hit.{Hit}
use Rattle.pm_pick.specs.Rays.{Ray}
use Rattle.pm_pick.specs.Fields.{ray_of}
use Rattle.pm_pick.specs.Picks.{pick_of}
use Rattle.pm_io.specs.Letters.{letter_v, space}
use Rattle.pm_session.specs.Letters.{letter_b, letter_c, letter_d, letter_g, letter_k, letter_l}
use Rattle.pm_session.specs.Letters.{letter_m, letter_p, letter_q, letter_s, letter_t}
use Rattle.pm_session.specs.Letters.{letter_w}
use Rattle.pm_session.specs.Level.{level_reply}
use Rattle.pm_session.specs.declared.command.Command.{Command}
use Rattle.pm_session.specs.declared.command.Command.TheVariants as commands
use Rattle.pm_session.specs.declared.grammar.Grammar.{Grammar}
use Rattle.pm_session.specs.declared.grammar.Grammar.TheVariants as grammars

-- The line is this one letter.
abbrev pub is_one_letter : ℕ → List ℕ → Bool
is_one_letter letter line = length line == 1 && slice_index_or line 0 0 == letter

-- The line begins with this letter and a space.
abbrev pub begins_with : ℕ → List ℕ → Bool
begins_with letter line =
    nat_le 2 (length line) && slice_index_or line 0 0 == letter && slice_index_or line 1 0 == space

-- The line begins with these two letters and a space.
abbrev pub begins_with_both : ℕ → ℕ → List ℕ → Bool
begins_with_both first second line =
    nat_le 3 (length line) && slice_index_or line 0 0 == first && slice_index_or line 1 0 == second
    && slice_index_or line 2 0 == space

-- The line begins with these three letters and a space.
abbrev pub begins_with_three : ℕ → ℕ → ℕ → List ℕ → Bool
begins_with_three first second third line =
    nat_le 4 (length line) && slice_index_or line 0 0 == first && slice_index_or line 1 0 == second
    && slice_index_or line 2 0 == third && slice_index_or line 3 0 == space

-- A line names the record to split, or nothing that can be read.
abbrev pub split_of : Option ℕ → Command
split_of None = commands.Bad
split_of (Some k) = commands.Split k

-- The same of the record to collapse,
abbrev pub collapse_of : Option ℕ → Command
collapse_of None = commands.Bad
collapse_of (Some k) = commands.Collapse k

-- of a view,
abbrev pub look_of : Option View → Command
look_of None = commands.Bad
look_of (Some view) = commands.Look view

-- and of a ray.
abbrev pub pick_by : Option Ray → Command
pick_by None = commands.Bad
pick_by (Some ray) = commands.Pick ray

-- The two unsigned numbers of 32 bits that fields spell.
unfoldable pub two_in : List (List ℕ) → Option (ℕ × ℕ)
two_in (a ∷ b ∷ []) = option_and_then (λ x. option_map (λ y. (x, y)) (unsigned_of 4294967295 b))
    (unsigned_of 4294967295 a)
two_in _ = None

-- Those that a text spells, with one space between them.
abbrev pub two_of : List ℕ → Option (ℕ × ℕ)
two_of text = two_in (spaced_fields text)

-- A line has the budget, or nothing that can be read.
abbrev pub budget_by : Option ℕ → Command
budget_by None = commands.Bad
budget_by (Some moves) = commands.Budget moves

-- The same of how far a geomorph goes.
abbrev pub morph_by : Option (ℕ × ℕ) → Command
morph_by None = commands.Bad
morph_by (Some part) = commands.Morph part.0 part.1

-- What stands after the letter and its space, as an unsigned number of 32 bits.
abbrev pub number_in : List ℕ → Option ℕ
number_in line = unsigned_of 4294967295 (drop 2 line)

-- A line with fields: `s K`, `c K` or `g A B` with one space between fields, and K, A and B
-- unsigned numbers of 32 bits; `v`, a space and the fields of a plain view; `vs`, a space and those
-- of a view with outlines; or `p`, a space and the fields of a ray.
unfoldable pub fields_command : List ℕ → Command
fields_command line =
    if begins_with letter_s line then split_of (number_in line)
    else if begins_with letter_c line then collapse_of (number_in line)
    else if begins_with letter_v line then look_of (view_of kinds.Plain (drop 2 line))
    else if begins_with_both letter_v letter_s line then
    look_of (view_of kinds.Outline (drop 3 line))
    else if begins_with letter_p line then pick_by (ray_of (drop 2 line))
    else if begins_with letter_g line then morph_by (two_of (drop 2 line))
    else commands.Bad

-- A line of `view`: `w`, `m`, `t`, `k`, `q`, or a line with fields.
unfoldable pub view_command : List ℕ → Command
view_command line =
    if is_one_letter letter_w line then commands.Show
    else if is_one_letter letter_m line then commands.Measure
    else if is_one_letter letter_t line then commands.Strip
    else if is_one_letter letter_q line then commands.Quit
    else if is_one_letter letter_k line then commands.Mark
    else fields_command line

-- A line of `live`: `d`, `l`, `b N` with N an unsigned number of 32 bits, `vd` and `vds` with the
-- fields of `v` and `vs`, or a line of `view`.
unfoldable pub live_command : List ℕ → Command
live_command line =
    if is_one_letter letter_d line then commands.Change
    else if is_one_letter letter_l line then commands.Level
    else if begins_with letter_b line then budget_by (number_in line)
    else if begins_with_both letter_v letter_d line then
    look_of (option_map by_deviation (view_of kinds.Plain (drop 3 line)))
    else if begins_with_three letter_v letter_d letter_s line then
    look_of (option_map by_deviation (view_of kinds.Outline (drop 4 line)))
    else view_command line

-- What a line asks for.
abbrev pub command_of : Grammar → List ℕ → Command
command_of grammars.View line = view_command line
command_of grammars.Live line = live_command line

-- Whether such a script has views by this measure.
abbrev pub has_measure : Grammar → Measure → Bool
has_measure grammars.View measures.Error = true
has_measure grammars.View measures.Deviation = false
has_measure grammars.Live measure = true

-- The reply to a move.
unfoldable pub reply_to : Option MoveFault → List ℕ
reply_to None = codes "ok\n"
reply_to (Some moves.NotActive) = codes "not active\n"
reply_to (Some (moves.Blocked f)) = codes "blocked " ++ decimal f.0 ++ codes "\n"

-- The split records after a split: one that is refused changes nothing.
unfoldable pub after_split : Hierarchy → (ℕ → Bool) → ℕ → ℕ → Bool
after_split h T k = cond (is_none (split_fault h T k)) (with T k) T

-- The same of a collapse.
unfoldable pub after_collapse : Hierarchy → (ℕ → Bool) → ℕ → ℕ → Bool
after_collapse h T k = cond (is_none (collapse_fault h T k)) (without T k) T

-- The reply to a view: `settled MOVES`, or `spent MOVES LEFT`.
unfoldable pub view_reply : Adapted → List ℕ
view_reply (adapted.Settled moves) = codes "settled " ++ decimal moves ++ codes "\n"
view_reply (adapted.Spent moves left) = codes "spent " ++ decimal moves ++ codes " " ++ decimal left
    ++ codes "\n"

-- The line of these nodes, edges, faces and loops, with the Euler number.
unfoldable pub shape_line : ℕ → ℕ → ℕ → ℕ → List ℕ
shape_line nodes edges faces loops =
    codes "shape " ++ decimal nodes ++ codes " " ++ decimal edges ++ codes " " ++ decimal faces
    ++ codes " loops " ++ decimal loops
    ++ codes " euler " ++ signed_decimal (pos nodes -ℤ pos edges +ℤ pos faces) ++ codes "\n"

-- The reply to `m`.
unfoldable pub shape_reply : Hierarchy → (ℕ → Bool) → List ℕ
shape_reply h T = shape_line (nodes_shown h T) (edges_shown h T) (faces_shown h T) (loops_shown h T)

-- The reply to a ray, by the first hit: `hit FACE S Q`, where it stands at the fraction S / Q of
-- the ray's way, or `miss`.
unfoldable pub pick_reply : Option Hit → List ℕ
pick_reply None = codes "miss\n"
pick_reply (Some hit) = codes "hit " ++ decimal hit.face.0 ++ codes " " ++ decimal hit.s
    ++ codes " " ++ decimal hit.q ++ codes "\n"

-- What is answered to a view: the first moves of its plan are made, as many as the budget allows.
unfoldable pub adapted_to : Hierarchy → ℕ → (ℕ → Bool) → View → Adapted
adapted_to h budget T view = adapted_of budget (length (view_plan h T view))

-- The split records after them.
unfoldable pub after_view : Hierarchy → ℕ → (ℕ → Bool) → View → ℕ → Bool
after_view h budget T view = moved_by T (take budget (view_plan h T view))

-- The state: which records are split, which are marked, and the budget of moves a view.
pub record State : Type 0 where
  pub split : ℕ → Bool
  pub marked : ℕ → Bool
  pub budget : ℕ

-- At first no record is split and none is marked.
abbrev pub at_first : ℕ → State
at_first budget = record { split = no_records; marked = no_records; budget = budget }

-- A/B is a fraction of the way: B is from 1 to MOST_PARTS, and A at most B.
unfoldable pub is_fraction : ℕ → ℕ → Bool
is_fraction a b = nat_le 1 b && nat_le b MOST_PARTS && nat_le a b

-- `not finer K`, where marked record K isn't split.
unfoldable pub not_finer : ℕ → List ℕ
not_finer k = codes "not finer " ++ decimal k ++ codes "\n"

-- The text of a geomorph, or the least marked record that isn't split, where there is one.
abbrev pub morph_or_refusal : Option ℕ → List ℕ → List ℕ
morph_or_refusal None text = text
morph_or_refusal (Some k) text = not_finer k

-- The reply to `g`.
abbrev pub morph_reply : Hierarchy → (ℕ → Bool) → (ℕ → Bool) → ℕ → ℕ → List ℕ
morph_reply h T S a b = morph_or_refusal (unsplit_of h T S) (morph_text h T S a b)

-- What comes of a line: it has a reply and leads to a state, or it ends the script, or it has a
-- fault.
pub data Deed : Type 0 where
  Replies : List ℕ → State → Deed
  Ends : Deed
  IsBad : Deed
  NamesNoRecord : Deed

-- Other records are split then;
abbrev pub now_split : State → (ℕ → Bool) → State
now_split s T = record { split = T; marked = s.marked; budget = s.budget }

-- those that are split are marked;
abbrev pub now_marked : State → State
now_marked s = record { split = s.split; marked = s.split; budget = s.budget }

-- or there is another budget.
abbrev pub with_budget : State → ℕ → State
with_budget s moves = record { split = s.split; marked = s.marked; budget = moves }

-- What a command does.
abbrev pub deed_of : Hierarchy → State → Command → Deed
deed_of h s commands.Show = Replies (frame_text h s.split) s
deed_of h s commands.Measure = Replies (shape_reply h s.split) s
deed_of h s commands.Strip = Replies (strips_text h s.split) s
deed_of h s commands.Quit = Ends
deed_of h s commands.Bad = IsBad
deed_of h s (commands.Split k) =
    if nat_lt k (record_count h) then
    Replies (reply_to (split_fault h s.split k)) (now_split s (after_split h s.split k))
    else NamesNoRecord
deed_of h s (commands.Collapse k) =
    if nat_lt k (record_count h) then
    Replies (reply_to (collapse_fault h s.split k)) (now_split s (after_collapse h s.split k))
    else NamesNoRecord
deed_of h s (commands.Look view) =
    Replies (view_reply (adapted_to h s.budget s.split view))
    (now_split s (after_view h s.budget s.split view))
deed_of h s (commands.Pick ray) = Replies (pick_reply (pick_of h ray)) s
deed_of h s commands.Mark = Replies (reply_to None) (now_marked s)
deed_of h s (commands.Morph a b) =
    if is_fraction a b then Replies (morph_reply h s.marked s.split a b) s else IsBad
deed_of h s (commands.Budget moves) = Replies (reply_to None) (with_budget s moves)
deed_of h s commands.Level = Replies (level_reply h s.split) s
deed_of h s commands.Change = Replies (change_text h s.marked s.split) (now_marked s)

-- What a line does.
unfoldable pub line_deed : Hierarchy → Grammar → State → List ℕ → Deed
line_deed h grammar s line = deed_of h s (command_of grammar line)
