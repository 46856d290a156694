-- The numbers by which programs tell the faults of an OBJ text.
use Rattle.std.specs.Prelude.{ℕ}
use Rattle.obj_read.specs.declared.fault.ObjFault.{ObjFault}
use Rattle.obj_read.specs.declared.fault.ObjFault.TheVariants as faults

abbrev pub fault_number : ObjFault → ℕ
fault_number faults.LineTooLong = 1
fault_number faults.Continuation = 2
fault_number faults.TooFewFields = 3
fault_number faults.BadNumber = 4
fault_number faults.NotWhole = 5
fault_number faults.OutOfRange = 6
fault_number faults.BadIndex = 7
fault_number faults.NotTriangle = 8
fault_number faults.TooMany = 9
fault_number faults.RepeatedCorner = 10
