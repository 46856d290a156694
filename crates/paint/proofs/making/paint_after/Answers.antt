use Rattle.std.proofs.Common.{drop}
use Rattle.std.proofs.lemmas.List.{take_rest}
use Rattle.paint.proofs.MadeLaws.{bad_fails}
use Rattle.paint.proofs.making.paint_after.Goals as goal

pub returns-in-Err-clause-err : goal.returns-in-Err-clause-err
returns-in-Err-clause-err c =
    let bytes = c.args.bytes.now in
    let begun = c.args.begun.now in
    rw c.of_coat.ensures
    (bad_fails bytes begun.h (drop begun.used bytes) c.in-Err.fail c.requires.begins
    (rw (take_rest bytes begun.used) at c.in-Err.ensures.err))
