use Rattle.std.proofs.Common.{refl}
use Rattle.obj_fit.specs.Making.{done_of}
use Rattle.prepare.proofs.EndingLaws.{text_written, text_cut, stops_by, stop_reads, stop_puts}
use Rattle.prepare.proofs.run.obey.Goals as goal

pub returns-in-Ok-write_made-clause-written : goal.returns-in-Ok-write_made-clause-written
returns-in-Ok-write_made-clause-written g c =
    text_written c.args.size _ _ _ (done_of c.in-Ok.made) c.in-Ok.made.notes.items
    c.in-Ok.ensures.made refl c.in-Ok-write_made.ensures.ok

pub returns-in-Err-clause-err : goal.returns-in-Err-clause-err
returns-in-Err-clause-err g c =
    rw c.of_make.ensures (stops_by c.args.size _ _ _ _ c.in-Err.fail _ c.in-Err.ensures.err)

pub returns-in-Err-clause-reads : goal.returns-in-Err-clause-reads
returns-in-Err-clause-reads g c =
    rw c.of_make.ensures (stop_reads c.args.size _ _ _ _ c.in-Err.fail c.in-Err.ensures.err)

pub returns-in-Err-clause-puts : goal.returns-in-Err-clause-puts
returns-in-Err-clause-puts g c = rw c.of_make.ensures (stop_puts c.in-Err.fail _)

pub returns-in-Err-write_made-clause-err : goal.returns-in-Err-write_made-clause-err
returns-in-Err-write_made-clause-err g c =
    text_cut c.args.size _ _ _ (done_of c.in-Ok.made) c.in-Ok.ensures.made
    c.in-Err-write_made.ensures.err
