use Rattle.std.proofs.Common.{ℕ, List, refl, sym, subst}
use Rattle.std.proofs.lemmas.Result.{err_from_is_err_and}
use Rattle.std.specs.Io.KnownBytes.{prepend_known}
use Rattle.obj_lines.specs.Reading.{IsReading}
use Rattle.obj_lines.proofs.FinishLaws.{held_stands, ended_ok, ended_err, if_err}
use Rattle.obj_lines.proofs.FinishLaws.{on_ok, then_ok, left_at_end}
use Rattle.obj_lines.proofs.read.read_lines_after.Goals as goal

pub returns-in_err-take_bytes-clause-err : goal.returns-in_err-take_bytes-clause-err
returns-in_err-take_bytes-clause-err g c =
    let p = err_from_is_err_and c.from_residual.result c.from_residual.ensures.1 in
    let h = g.R.LineReader.held c.args.reader.now in
    rw (p.1, p.2) (c.in_err-take_bytes.ensures.err h _ (g.S.Source.left c.args.source.now) _
    (held_stands g.R.LineReader.rules h c.args.first.now _ c.in-Ok-new.lines c.in-Ok-new.ensures))

pub loop-fail-init : goal.loop-fail-init
loop-fail-init g c =
    let h = g.R.LineReader.held c.args.reader.now in
    let left = g.S.Source.left c.args.source.now in
    let whole = prepend_known c.args.first.now left in
    let read = c.in_ok-take_bytes.ensures.reads_on h whole left
    (held_stands g.R.LineReader.rules h c.args.first.now left c.in-Ok-new.lines
    c.in-Ok-new.ensures) in
    record {
      between = c.in_ok-take_bytes.ensures.between;
      ready = c.in_ok-take_bytes.ensures.ready;
      reading = subst (λ (l : List ℕ). IsReading g.R.LineReader.rules h whole l left
          c.take_bytes.new.progress (g.R.LineReader.held c.take_bytes.new.reader)
          c.take_bytes.new.lines) (sym c.in-Ok.ensures) read;
      not_ended = c.requires.not_ended;
      count = refl;
    }

pub returns-in-Ok-false-clause-ok : goal.returns-in-Ok-false-clause-ok
returns-in-Ok-false-clause-ok g c =
    then_ok c.finish.result _ _
    (λ is. ended_ok _ _ _ _ _ (c.in-Ok-false.ensures.reads_on _ _ c.loop-fail.invariant.reading)
    (c.in-Ok-false.ensures.end c.in-Ok-false.field-0-test) is) c.finish.ensures.ok

pub returns-in-Ok-false-clause-end : goal.returns-in-Ok-false-clause-end
returns-in-Ok-false-clause-end g c =
    on_ok c.finish.result _
    (left_at_end c.step.new.taker _ (c.in-Ok-false.ensures.end c.in-Ok-false.field-0-test))

pub returns-in-Ok-false-clause-err : goal.returns-in-Ok-false-clause-err
returns-in-Ok-false-clause-err g c =
    if_err c.finish.result _ _
    (λ e is. ended_err _ _ _ _ _ e
    (c.in-Ok-false.ensures.reads_on _ _ c.loop-fail.invariant.reading)
    (c.in-Ok-false.ensures.end c.in-Ok-false.field-0-test) is) c.finish.ensures.err
