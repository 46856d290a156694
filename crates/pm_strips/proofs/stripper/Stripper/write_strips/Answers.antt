use Rattle.std.proofs.Common.{◌++◌, List, ℕ, [], ap}
use Rattle.std.specs.List.{flat_map}
use Rattle.std.proofs.lemmas.Result.{err_from_is_err_and}
use Rattle.pm_io.proofs.PutLaws.{through_stops, flush_stops, puts_same}
use Rattle.pm_io.proofs.StopLaws.{◌>>◌, stops_before, stops_at_flush, flushed}
use Rattle.pm_base.specs.Counts.{set_of}
use Rattle.pm_front.specs.State.{State}
use Rattle.pm_strips.specs.Shown.{strip_lists_of, strip_line, count_line, strips_text}
use Rattle.pm_strips.proofs.stripper.Stripper.write_strips.Goals as goal

abbrev strips : State → List (List ℕ)
strips v = strip_lists_of v.h (set_of v.flags)

-- The text that ends with the count of that many strips.
abbrev counted : State → ℕ → List ℕ
counted v n = flat_map strip_line (strips v) ++ count_line n

pub returns-in_err-strips-clause-puts : goal.returns-in_err-strips-clause-puts
unfolding strips_text
returns-in_err-strips-clause-puts g c =
    let p = err_from_is_err_and c.from_residual.result c.from_residual.ensures.1 in
    rw (p.1, p.2)
    (flush_stops g.K.Sink _ _ _ _ _ _ c.new-page.ensures
    (through_stops g.K.Sink _ _ _ _ (flat_map strip_line (strips c.args.front.now)) _ _
    c.in_err-strips.ensures.puts))

pub returns-in_err-put_total-clause-puts : goal.returns-in_err-put_total-clause-puts
unfolding strips_text
returns-in_err-put_total-clause-puts g c =
    puts_same g.K.Sink _ _ _ _ _ (ap (counted c.args.front.now) c.in_ok-strips.ensures.count)
    (stops_before [] c.new-page.ensures
    (c.in_ok-strips.ensures.puts >> c.in_err-put_total.ensures)
    c.from_residual-in_err-put_total.ensures.1)

pub returns-in_err-flush-clause-puts : goal.returns-in_err-flush-clause-puts
unfolding strips_text
returns-in_err-flush-clause-puts g c =
    puts_same g.K.Sink _ _ _ _ _ (ap (counted c.args.front.now) c.in_ok-strips.ensures.count)
    (stops_at_flush c.new-page.ensures
    (c.in_ok-strips.ensures.puts >> c.in_ok-put_total.ensures)
    c.in_err-flush.ensures.puts c.from_residual-in_err-flush.ensures.1)

pub returns-clause-puts : goal.returns-clause-puts
unfolding strips_text
returns-clause-puts g c =
    puts_same g.K.Sink _ _ _ _ _ (ap (counted c.args.front.now) c.in_ok-strips.ensures.count)
    (flushed c.new-page.ensures (c.in_ok-strips.ensures.puts >> c.in_ok-put_total.ensures)
    c.in_ok-flush.ensures.puts)
