use Rattle.paint.proofs.MadeLaws.{unread_fails}
use Rattle.paint.proofs.making.paint.Goals as goal

pub returns-in-Err-clause-err : goal.returns-in-Err-clause-err
returns-in-Err-clause-err c =
    unread_fails c.args.bytes.now c.in-Err.fail c.in-Err.ensures.err
