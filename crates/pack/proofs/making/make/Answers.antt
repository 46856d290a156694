use Rattle.pack.proofs.MadeLaws.{unpack_refuses, first_refuses}
use Rattle.pack.proofs.making.make.Goals as goal

pub returns-in-Err-unpack-clause-err : goal.returns-in-Err-unpack-clause-err
returns-in-Err-unpack-clause-err c =
    rw (c.in-Unpack.is, c.of_unpack.ensures)
    (unpack_refuses c.args.bytes.now c.in-Err-unpack.fail c.in-Err-unpack.ensures.fail
    c.in-Err-unpack.ensures.none)

pub returns-in-Err-unpack_first-clause-err : goal.returns-in-Err-unpack_first-clause-err
returns-in-Err-unpack_first-clause-err c =
    rw (c.in-UnpackFirst.is, c.of_unpack-in-Err-unpack_first.ensures)
    (first_refuses c.args.bytes.now c.in-UnpackFirst.n c.in-Err-unpack_first.fail
    c.in-Err-unpack_first.ensures.fail)
