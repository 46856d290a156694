-- What is said on the error sink where a command ends early, after the name of the program and a
-- colon.
use Rattle.std.specs.Prelude.{ℕ, List, ◌++◌, codes}
use Rattle.std.specs.Fmt.{decimal}
use Rattle.obj_read.specs.Numbers.{fault_number}
use Rattle.pm_format.specs.declared.fault.FormatError.{FormatError}
use Rattle.pm_format.specs.declared.fault.FormatError.TheVariants as format
use Rattle.pm_commands.specs.declared.fault.Fault.{Fault}
use Rattle.pm_commands.specs.declared.fault.Fault.TheVariants as faults
use Rattle.pm_commands.specs.declared.fault.CommandFail.{CommandFail}
use Rattle.pm_commands.specs.declared.fault.CommandFail.TheVariants as fails

-- A fault with a place: a word for what is counted, and its number.
unfoldable pub place_text : ℕ → List ℕ → ℕ → List ℕ
place_text number word place =
    codes "fault " ++ decimal number ++ codes " " ++ word ++ codes " " ++ decimal place
    ++ codes "\n"

-- A fault without a place.
unfoldable pub bare_text : ℕ → List ℕ
bare_text number = codes "fault " ++ decimal number ++ codes "\n"

-- A fault of a stream text. Want of memory is none, and has a text of its own.
abbrev pub stream_text : FormatError → List ℕ
stream_text format.BadMagic = bare_text 20
stream_text (format.BadVersion version) = place_text 21 (codes "version") version
stream_text (format.BadDigits digits) = place_text 33 (codes "digits") digits
stream_text (format.Truncated bytes) = place_text 22 (codes "byte") bytes
stream_text format.BadCount = bare_text 23
stream_text (format.BadRoot root) = place_text 24 (codes "root") root
stream_text (format.BadFace face) = place_text 25 (codes "face") face
stream_text (format.BadRecord record_number) = place_text 26 (codes "record") record_number
stream_text (format.BadInput field) = place_text 27 (codes "input") field
stream_text format.OutOfMemory = codes "out of memory\n"

-- A fault.
unfoldable pub fault_text : Fault → List ℕ
fault_text (faults.Stream e) = stream_text e
fault_text (faults.BadNeighbour record_number) = place_text 28 (codes "record") record_number
fault_text faults.Trailing = bare_text 29
fault_text (faults.Obj e n) = place_text (fault_number e) (codes "line") n
fault_text (faults.EdgeTwice face) = place_text 11 (codes "face") face
fault_text (faults.LeafEdgeTwice face) = place_text 11 (codes "face") face
fault_text (faults.NotFan vertex) = place_text 12 (codes "vertex") vertex
fault_text faults.NoMesh = bare_text 14
fault_text (faults.BadLine n) = place_text 30 (codes "line") n
fault_text (faults.NoRecord n) = place_text 31 (codes "line") n
fault_text faults.ScriptTooLong = bare_text 32

-- Why a command ended early.
unfoldable pub fail_text : CommandFail → List ℕ
fail_text (fails.Faulty f) = fault_text f
fail_text fails.Read = codes "read fault\n"
fail_text fails.Write = codes "write fault\n"
fail_text fails.OutOfMemory = codes "out of memory\n"
