use Rattle.std.proofs.Common.{◌≡◌, ◌<◌, ℕ, Bool, Option, List, [], ◌∷◌, true, false, length}
use Rattle.std.proofs.Common.{slice_set, refl, sym, ap, ◌∙◌, arith}
use Rattle.pm_io.proofs.PutLaws.{through_same}
use Rattle.pm_io.proofs.StopLaws.{◌>>◌, followed, stops_within}
use Rattle.pm_base.specs.Counts.{set_of}
use Rattle.pm_base.specs.Sides.{next}
use Rattle.pm_forest.specs.Faces.{face_count}
use Rattle.pm_forest.proofs.Flags.{set_of-clear}
use Rattle.pm_front.specs.State.{State}
use Rattle.pm_strips.specs.Strips.{entered, first_side, strip_from, left_by}
use Rattle.pm_strips.specs.Shown.{beyond_in, is_there, node_of_corner}
use Rattle.pm_strips.specs.Texts.{first_text, entered_text, line_end, line_of}
use Rattle.pm_strips.proofs.ShownLaws.{there-parts}
use Rattle.pm_strips.proofs.Entering.{strip_text, strip_left}
use Rattle.pm_strips.proofs.strip.put_strip.Goals as goal

abbrev beyond : State → ℕ → Option ℕ
beyond v = beyond_in v.h (set_of v.flags)

abbrev node : State → ℕ → ℕ
node v = node_of_corner v.h (set_of v.flags)

-- The sides by which the strip from face f enters more triangles, where it leaves f by this exit.
abbrev sides : State → List Bool → ℕ → ℕ → List ℕ
sides v items f exit =
    entered (beyond v) (face_count v.h) (set_of (slice_set items f false)) true exit

-- The parts of its line after the first.
abbrev rest : State → List Bool → ℕ → ℕ → List (List ℕ)
rest v items f exit = entered_text (node v) (sides v items f exit) ∷ line_end ∷ []

module _ (v : State) (items : List Bool) (f : ℕ) {after : List Bool} {e exit : ℕ}
    (len : length items ≡ face_count v.h) (there : is_there v.h (set_of v.flags) f ≡ true)
    (taken : after ≡ slice_set items f false) (first : e ≡ first_side (beyond v) (set_of after) f)
    (leads : exit ≡ next e)
  where
    low : f < length items
    low = omega (arith, (there-parts v.h (set_of v.flags) f there).0, len)

    begins : e ≡ first_side (beyond v) (set_of (slice_set items f false)) f
    begins = first ∙ ap (λ (l : List Bool). first_side (beyond v) (set_of l) f) taken

    line : followed (first_text (node v) e) (rest v items f exit)
        ≡ line_of (node v) (strip_from (beyond v) (face_count v.h) (set_of items) f)
    line = sym (strip_text (beyond v) (face_count v.h) (set_of items)
        (set_of (slice_set items f false)) f e exit (set_of-clear items f low) begins leads
        (node v))

    left : left_by (set_of (slice_set items f false)) (sides v items f exit)
        ≡ left_by (set_of items) (strip_from (beyond v) (face_count v.h) (set_of items) f)
    left = sym (strip_left (beyond v) (face_count v.h) (set_of items)
        (set_of (slice_set items f false)) f e exit (set_of-clear items f low) begins leads)

pub returns-in_err-put_begin-clause-puts : goal.returns-in_err-put_begin-clause-puts
returns-in_err-put_begin-clause-puts g c =
    let items = c.args.free.now.items in
    let e = c.first_side-first.result.0 in
    through_same g.K.Sink _ _ _ _ _ _ _
    (line c.args.front.now items c.args.face.0 c.requires.len c.requires.there
    c.deref.ensures.value c.first_side-first.ensures.value refl)
    (stops_within (rest c.args.front.now items c.args.face.0 (next e)) c.in_err-put_begin.ensures
    c.from_residual.ensures.1)

pub returns-in_err-put_entered-clause-puts : goal.returns-in_err-put_entered-clause-puts
returns-in_err-put_entered-clause-puts g c =
    through_same g.K.Sink _ _ _ _ _ _ _
    (line c.args.front.now c.args.free.now.items c.args.face.0 c.requires.len c.requires.there
    c.deref.ensures.value c.first_side-first.ensures.value c.next.ensures.value)
    (stops_within (line_end ∷ []) (c.in_ok-put_begin.ensures >> c.in_err-put_entered.ensures.puts)
    c.from_residual-in_err-put_entered.ensures.1)

pub returns-in_err-add-clause-puts : goal.returns-in_err-add-clause-puts
returns-in_err-add-clause-puts g c =
    through_same g.K.Sink _ _ _ _ _ _ _
    (line c.args.front.now c.args.free.now.items c.args.face.0 c.requires.len c.requires.there
    c.deref.ensures.value c.first_side-first.ensures.value c.next.ensures.value)
    (stops_within []
    (c.in_ok-put_begin.ensures >> c.in_ok-put_entered.ensures.puts >> c.in_err-add.ensures.puts)
    c.from_residual-in_err-add.ensures.1)

pub returns-clause-puts : goal.returns-clause-puts
returns-clause-puts g c =
    through_same g.K.Sink _ _ _ _ _ _ _
    (line c.args.front.now c.args.free.now.items c.args.face.0 c.requires.len c.requires.there
    c.deref.ensures.value c.first_side-first.ensures.value c.next.ensures.value)
    (c.in_ok-put_begin.ensures >> c.in_ok-put_entered.ensures.puts >> c.in_ok-add.ensures.puts)

pub returns-clause-left : goal.returns-clause-left
returns-clause-left g c =
    c.in_ok-put_entered.ensures.left
    ∙ left c.args.front.now c.args.free.now.items c.args.face.0 c.requires.len c.requires.there
    c.deref.ensures.value c.first_side-first.ensures.value c.next.ensures.value
