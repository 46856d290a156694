use Rattle.std.proofs.lemmas.Result.{err_from_is_err_and}
use Rattle.pm_io.proofs.PutLaws.{flush_then, flush_stops}
use Rattle.pm_format.proofs.write.encode.Goals as goal

pub returns-in_err-put_text : goal.returns-in_err-put_text
returns-in_err-put_text g c =
    let p = err_from_is_err_and c.from_residual.result c.from_residual.ensures.1 in
    rw (p.1, p.2)
    (flush_stops g.K.Sink _ _ _ _ _ _ c.new-page.ensures c.in_err-put_text.ensures)

pub returns-in_err-flush : goal.returns-in_err-flush
returns-in_err-flush g c =
    let p = err_from_is_err_and c.from_residual-in_err-flush.result
    c.from_residual-in_err-flush.ensures.1 in
    rw (p.1, p.2)
    (flush_then g.K.Sink _ _ _ _ _ _ _ _ c.new-page.ensures c.in_ok-put_text.ensures
    c.in_err-flush.ensures.puts)

pub returns : goal.returns
returns g c =
    flush_then g.K.Sink _ _ _ _ _ _ _ _ c.new-page.ensures c.in_ok-put_text.ensures
    c.in_ok-flush.ensures.puts
