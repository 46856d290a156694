-- Faults of what is packed or unpacked, by the numbers that programs tell.
use Rattle.std.specs.Prelude.{ℕ, Option, None, Some}
use Rattle.pm_format.specs.declared.fault.FormatError.{FormatError}
use Rattle.pm_format.specs.declared.fault.FormatError.TheVariants as format
use Rattle.pm_pack.specs.declared.fault.Fault.{Fault}
use Rattle.pm_pack.specs.declared.fault.Fault.TheVariants as faults
use Rattle.pm_pack.specs.declared.writing.PackFail.{PackFail}
use Rattle.pm_pack.specs.declared.writing.PackFail.TheVariants as packs
use Rattle.pm_pack.specs.declared.reading.UnpackFail.{UnpackFail}
use Rattle.pm_pack.specs.declared.reading.UnpackFail.TheVariants as unpacks

-- The number of a fault of a stream text. Want of memory is none, and has 0.
abbrev pub stream_number : FormatError → ℕ
stream_number format.BadMagic = 20
stream_number (format.BadVersion version) = 21
stream_number (format.Truncated bytes) = 22
stream_number format.BadCount = 23
stream_number (format.BadRoot root) = 24
stream_number (format.BadFace face) = 25
stream_number (format.BadRecord k) = 26
stream_number (format.BadInput field) = 27
stream_number (format.BadDigits digits) = 33
stream_number format.OutOfMemory = 0

-- What it tells the number of.
abbrev pub stream_unit : FormatError → Option ℕ
stream_unit format.BadMagic = None
stream_unit (format.BadVersion version) = Some version
stream_unit (format.Truncated bytes) = Some bytes
stream_unit format.BadCount = None
stream_unit (format.BadRoot root) = Some root
stream_unit (format.BadFace face) = Some face
stream_unit (format.BadRecord k) = Some k
stream_unit (format.BadInput field) = Some field
stream_unit (format.BadDigits digits) = Some digits
stream_unit format.OutOfMemory = None

-- The number of any fault,
abbrev pub number_of : Fault → ℕ
number_of (faults.Stream e) = stream_number e
number_of faults.Trailing = 29
number_of faults.NotPacked = 34
number_of faults.Cut = 35
number_of faults.PackedTrailing = 36

-- and what it tells the number of.
abbrev pub unit_of : Fault → Option ℕ
unit_of (faults.Stream e) = stream_unit e
unit_of faults.Trailing = None
unit_of faults.NotPacked = None
unit_of faults.Cut = None
unit_of faults.PackedTrailing = None

-- The fault for which bytes aren't packed. Want of memory is none.
abbrev pub pack_fault : PackFail → Option Fault
pack_fault (packs.Stream e) = Some (faults.Stream e)
pack_fault packs.Trailing = Some faults.Trailing
pack_fault packs.OutOfMemory = None

-- The fault for which bytes aren't unpacked. Want of memory is none.
abbrev pub unpack_fault : UnpackFail → Option Fault
unpack_fault unpacks.NotPacked = Some faults.NotPacked
unpack_fault unpacks.Cut = Some faults.Cut
unpack_fault unpacks.Trailing = Some faults.PackedTrailing
unpack_fault (unpacks.Stream e) = Some (faults.Stream e)
unpack_fault unpacks.OutOfMemory = None
