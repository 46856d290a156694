-- The first line with a fault, and what a failure says of it.
use Rattle.std.specs.Prelude.{ℕ, Result, Ok, Err}
use Rattle.obj_lines.specs.declared.fault.TextFail.{TextFail}
use Rattle.obj_lines.specs.declared.fault.TextFail.TheVariants as text_fails
use Rattle.obj_lines.specs.Rules.{Refused as LineRefused}
pub use Rattle.obj_lines.specs.Fails.{IsRefusal, FaultNotReached}
use Rattle.obj_read.specs.declared.fault.ObjFail.{ObjFail}
use Rattle.obj_read.specs.declared.fault.ObjFail.TheVariants as line_fails
use Rattle.obj_read.specs.Numbers.{fault_number as line_fault_number}
use Rattle.obj_scan.specs.declared.fault.ScanFault.{ScanFault}
use Rattle.obj_scan.specs.declared.fault.ScanFault.TheVariants as faults
use Rattle.obj_scan.specs.declared.fault.ScanFail.{ScanFail}
use Rattle.obj_scan.specs.declared.fault.ScanFail.TheVariants as fails

-- The numbers by which programs tell the faults.
abbrev pub fault_number : ScanFault → ℕ
fault_number (faults.Line fault) = line_fault_number fault
fault_number faults.SixteenBits = 10
fault_number faults.LoneReturn = 11
fault_number faults.GarbledWord = 13

abbrev pub of_line : ObjFail → TextFail ScanFault
of_line (line_fails.Fault fault line) = text_fails.Fault
    (record { fault = faults.Line fault; line = line })
of_line line_fails.Read = text_fails.Read
of_line line_fails.OutOfMemory = text_fails.OutOfMemory

-- The first line with a fault, and its place.
abbrev pub Refused : Type 0
Refused = LineRefused ScanFault

-- What an answer says of the source alone: it failed exactly where the answer is Read.
abbrev pub of_source : {T : Type 0} → Result T ScanFail → Result (Unit {0}) (Unit {0})
of_source (Ok x) = Ok tt
of_source (Err (fails.Fault fault line)) = Ok tt
of_source (Err fails.Read) = Err tt
of_source (Err fails.OutOfMemory) = Ok tt
