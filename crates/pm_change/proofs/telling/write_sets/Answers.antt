use Rattle.std.proofs.Common.{List, ℕ, [], ◌∷◌, drop}
use Rattle.pm_io.proofs.StopLaws.{◌>>◌, stops_before, stops_at_flush, flushed}
use Rattle.pm_base.specs.Counts.{set_of}
use Rattle.pm_front.specs.State.{State}
use Rattle.pm_frame.specs.Frame.{end_line}
use Rattle.pm_change.specs.declared.parts.Part.TheVariants as parts
use Rattle.pm_change.specs.declared.sets.ChangeSets.{ChangeSets}
use Rattle.pm_change.specs.Parts.{lines_in, text_in}
use Rattle.pm_change.proofs.telling.write_sets.Goals as goal

-- The parts of the text after the first, in their order.
abbrev rest : State → ChangeSets → List (List ℕ)
rest f s =
    lines_in f.h (set_of f.flags) parts.GoneFaces s.gone_faces
    ∷ lines_in f.h (set_of f.flags) parts.GoneNodes s.gone_nodes
    ∷ lines_in f.h (set_of f.flags) parts.NewNodes s.new_nodes
    ∷ lines_in f.h (set_of f.flags) parts.PutFaces s.put_faces ∷ end_line ∷ []

pub returns-in_err-put_first-clause-puts : goal.returns-in_err-put_first-clause-puts
unfolding text_in
returns-in_err-put_first-clause-puts g c =
    stops_before (rest c.args.front.now c.args.sets.now) c.new-page.ensures
    c.in_err-put_first.ensures c.from_residual.ensures.1

pub returns-in_err-put_part-clause-puts : goal.returns-in_err-put_part-clause-puts
unfolding text_in
returns-in_err-put_part-clause-puts g c =
    stops_before (drop 1 (rest c.args.front.now c.args.sets.now)) c.new-page.ensures
    (c.in_ok-put_first.ensures >> c.in_err-put_part.ensures.puts)
    c.from_residual-in_err-put_part.ensures.1

pub returns-in_err-put_part-2-clause-puts : goal.returns-in_err-put_part-2-clause-puts
unfolding text_in
returns-in_err-put_part-2-clause-puts g c =
    stops_before (drop 2 (rest c.args.front.now c.args.sets.now)) c.new-page.ensures
    (c.in_ok-put_first.ensures >> c.in_ok-put_part.ensures.puts
    >> c.in_err-put_part-2.ensures.puts) c.from_residual-in_err-put_part-2.ensures.1

pub returns-in_err-put_part-3-clause-puts : goal.returns-in_err-put_part-3-clause-puts
unfolding text_in
returns-in_err-put_part-3-clause-puts g c =
    stops_before (drop 3 (rest c.args.front.now c.args.sets.now)) c.new-page.ensures
    (c.in_ok-put_first.ensures >> c.in_ok-put_part.ensures.puts >> c.in_ok-put_part-2.ensures.puts
    >> c.in_err-put_part-3.ensures.puts) c.from_residual-in_err-put_part-3.ensures.1

pub returns-in_err-put_part-4-clause-puts : goal.returns-in_err-put_part-4-clause-puts
unfolding text_in
returns-in_err-put_part-4-clause-puts g c =
    stops_before (drop 4 (rest c.args.front.now c.args.sets.now)) c.new-page.ensures
    (c.in_ok-put_first.ensures >> c.in_ok-put_part.ensures.puts >> c.in_ok-put_part-2.ensures.puts
    >> c.in_ok-put_part-3.ensures.puts >> c.in_err-put_part-4.ensures.puts)
    c.from_residual-in_err-put_part-4.ensures.1

pub returns-in_err-put_last-clause-puts : goal.returns-in_err-put_last-clause-puts
unfolding text_in
returns-in_err-put_last-clause-puts g c =
    stops_before [] c.new-page.ensures
    (c.in_ok-put_first.ensures >> c.in_ok-put_part.ensures.puts >> c.in_ok-put_part-2.ensures.puts
    >> c.in_ok-put_part-3.ensures.puts >> c.in_ok-put_part-4.ensures.puts
    >> c.in_err-put_last.ensures) c.from_residual-in_err-put_last.ensures.1

pub returns-in_err-flush-clause-puts : goal.returns-in_err-flush-clause-puts
unfolding text_in
returns-in_err-flush-clause-puts g c =
    stops_at_flush c.new-page.ensures
    (c.in_ok-put_first.ensures >> c.in_ok-put_part.ensures.puts >> c.in_ok-put_part-2.ensures.puts
    >> c.in_ok-put_part-3.ensures.puts >> c.in_ok-put_part-4.ensures.puts
    >> c.in_ok-put_last.ensures)
    c.in_err-flush.ensures.puts c.from_residual-in_err-flush.ensures.1

pub returns-clause-puts : goal.returns-clause-puts
unfolding text_in
returns-clause-puts g c =
    flushed c.new-page.ensures
    (c.in_ok-put_first.ensures >> c.in_ok-put_part.ensures.puts >> c.in_ok-put_part-2.ensures.puts
    >> c.in_ok-put_part-3.ensures.puts >> c.in_ok-put_part-4.ensures.puts
    >> c.in_ok-put_last.ensures)
    c.in_ok-flush.ensures.puts
