use Rattle.obj_scan.specs.Reading.{held_of}
use Rattle.obj_scan.proofs.ReaderLaws.{start_ready, scan_ok, scan_fault, scan_failed}
use Rattle.obj_scan.proofs.scan.scan_obj_after.Goals as goal

pub read_lines_after-requires-clause-ready : goal.read_lines_after-requires-clause-ready
read_lines_after-requires-clause-ready g c = start_ready _ c.new-scanner.ensures

pub returns-in-Ok-clause-ok : goal.returns-in-Ok-clause-ok
returns-in-Ok-clause-ok g c =
    scan_ok _ _ (held_of c.read_lines_after.new.reader) c.new-scanner.ensures c.in-Ok.ensures.ok

pub returns-in-Err-Fault-clause-err : goal.returns-in-Err-Fault-clause-err
returns-in-Err-Fault-clause-err g c =
    scan_fault _ _ c.in-Err-Fault.why c.new-scanner.ensures
    (rw c.in-Err-Fault.field-0-is at c.in-Err-Fault.ensures.err)

pub returns-in-Err-Read-clause-err : goal.returns-in-Err-Read-clause-err
returns-in-Err-Read-clause-err g c =
    scan_failed _ _ _ c.new-scanner.ensures
    (rw c.in-Err-Read.field-0-is at c.in-Err-Read.ensures.err)
