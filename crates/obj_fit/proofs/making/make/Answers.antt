use Rattle.obj_scan.specs.Fails.{scanned_of}
use Rattle.obj_fit.specs.Making.{done_of}
use Rattle.obj_fit.proofs.MakeLaws.{file_refuses, make_stops, make_stands}
use Rattle.obj_fit.proofs.making.make.Goals as goal

pub returns-in-Err-Fault-clause-err : goal.returns-in-Err-Fault-clause-err
returns-in-Err-Fault-clause-err g c = (
  rw c.in-Err-Fault.field-0-is
      (file_refuses c.args.size _ c.in-Err-Fault.fault
      (rw c.in-Err-Fault.field-0-is at c.in-Err-Fault.ensures.err)),
  rw c.in-Err-Fault.field-0-is
      at c.in-Err-Fault.ensures.cause.same,
)

pub returns-in-Ok-make_of-clause-made : goal.returns-in-Ok-make_of-clause-made
returns-in-Ok-make_of-clause-made g c =
    make_stands c.args.size _ (scanned_of c.in-Ok.scan) (done_of c.in-Ok-make_of.made)
    c.in-Ok.ensures.ok c.in-Ok-make_of.ensures.made

pub returns-clause-err : goal.returns-clause-err
returns-clause-err g c =
    make_stops c.args.size _ _ (scanned_of c.in-Ok.scan) c.in-Err.fail _ _ c.in-Ok.ensures.ok
    c.in-Ok.ensures.cause.same c.in-Err.ensures.err
