use Rattle.std.proofs.Common.{Bool, List, ℕ, [], ◌∷◌, drop}
use Rattle.pm_io.proofs.StopLaws.{◌>>◌, stops_before, stops_at_flush, flushed}
use Rattle.pm_base.specs.Counts.{set_of}
use Rattle.pm_front.specs.State.{State}
use Rattle.pm_frame.specs.Frame.{face_lines, end_line}
use Rattle.pm_morph.specs.Texts.{moved_lines, morph_text}
use Rattle.pm_morph.proofs.text.write_text.Goals as goal

-- The parts of the text after the first, in their order.
abbrev rest : State → List Bool → ℕ → ℕ → List (List ℕ)
rest f marks a b =
    moved_lines f.h (set_of marks) (set_of f.flags) a b
    ∷ face_lines f.h (set_of f.flags) ∷ end_line ∷ []

pub returns-in_err-put_first : goal.returns-in_err-put_first
unfolding morph_text
returns-in_err-put_first g c =
    stops_before (rest c.args.front.now c.args.marks.now c.args.a c.args.b) c.new-page.ensures
    c.in_err-put_first.ensures c.from_residual.ensures.1

pub returns-in_err-put_nodes : goal.returns-in_err-put_nodes
unfolding morph_text
returns-in_err-put_nodes g c =
    stops_before (drop 1 (rest c.args.front.now c.args.marks.now c.args.a c.args.b))
    c.new-page.ensures
    (c.in_ok-put_first.ensures >> c.in_err-put_nodes.ensures)
    c.from_residual-in_err-put_nodes.ensures.1

pub returns-in_err-put_faces : goal.returns-in_err-put_faces
unfolding morph_text
returns-in_err-put_faces g c =
    stops_before (drop 2 (rest c.args.front.now c.args.marks.now c.args.a c.args.b))
    c.new-page.ensures
    (c.in_ok-put_first.ensures >> c.in_ok-put_nodes.ensures >> c.in_err-put_faces.ensures)
    c.from_residual-in_err-put_faces.ensures.1

pub returns-in_err-put_last : goal.returns-in_err-put_last
unfolding morph_text
returns-in_err-put_last g c =
    stops_before [] c.new-page.ensures
    (c.in_ok-put_first.ensures >> c.in_ok-put_nodes.ensures >> c.in_ok-put_faces.ensures
    >> c.in_err-put_last.ensures) c.from_residual-in_err-put_last.ensures.1

pub returns-in_err-flush : goal.returns-in_err-flush
unfolding morph_text
returns-in_err-flush g c =
    stops_at_flush c.new-page.ensures
    (c.in_ok-put_first.ensures >> c.in_ok-put_nodes.ensures >> c.in_ok-put_faces.ensures
    >> c.in_ok-put_last.ensures)
    c.in_err-flush.ensures.puts c.from_residual-in_err-flush.ensures.1

pub returns : goal.returns
unfolding morph_text
returns g c =
    flushed c.new-page.ensures
    (c.in_ok-put_first.ensures >> c.in_ok-put_nodes.ensures >> c.in_ok-put_faces.ensures
    >> c.in_ok-put_last.ensures)
    c.in_ok-flush.ensures.puts
