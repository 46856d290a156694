use Rattle.pm_commands.specs.Surface.{side_twice, no_fan}
use Rattle.pm_commands.proofs.surface.surface_of.Goals as goal

pub returns-in-Err-EdgeTwice-clause-fault : goal.returns-in-Err-EdgeTwice-clause-fault
returns-in-Err-EdgeTwice-clause-fault c =
    side_twice c.in-Err-EdgeTwice.face.0
    (rw c.in-Err-EdgeTwice.field-0-is at c.in-Err-EdgeTwice.ensures.fault)

pub returns-in-Err-NotFan-clause-fault : goal.returns-in-Err-NotFan-clause-fault
returns-in-Err-NotFan-clause-fault c =
    let fault = rw c.in-Err-NotFan.field-0-is at c.in-Err-NotFan.ensures.fault in
    no_fan c.in-Err-NotFan.vertex fault.0 fault.1
