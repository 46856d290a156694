use Rattle.std.proofs.Common.{[], take}
use Rattle.paint.proofs.StreamLaws.{already, begun, finished}
use Rattle.paint.proofs.reading.read_by.Goals as goal

pub returns-in-Err-clause-err : goal.returns-in-Err-clause-err
returns-in-Err-clause-err c =
    rw c.of_stream.ensures
    (already c.args.bytes.now c.in-Err.fault (c.in-Err.ensures.says [] c.requires))

pub returns-in-Ok-finish-clause-ok : goal.returns-in-Ok-finish-clause-ok
returns-in-Ok-finish-clause-ok c =
    begun c.args.bytes.now c.in-Ok.taken.used _ c.in-Ok-finish.h
    (c.in-Ok-finish.ensures.ok (take c.in-Ok.taken.used c.args.bytes.now)
    (c.in-Ok.ensures.stands [] c.requires))

pub returns-in-Err-finish-clause-err : goal.returns-in-Err-finish-clause-err
returns-in-Err-finish-clause-err c =
    rw c.of_stream-in-Err-finish.ensures
    (finished c.args.bytes.now c.in-Ok.taken c.in-Err-finish.fault
    (c.in-Ok.ensures.says [] c.requires) c.in-Ok.ensures.all
    (c.in-Err-finish.ensures.err (take c.in-Ok.taken.used c.args.bytes.now)
    (c.in-Ok.ensures.stands [] c.requires)))
