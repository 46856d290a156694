-- The line that the program puts on the error sink where it ends early.
use Rattle.std.specs.Prelude.{ℕ, List, ◌++◌, codes}
use Rattle.std.specs.Fmt.{decimal}
use Rattle.pm_format.specs.declared.fault.FormatError.{FormatError}
use Rattle.pm_format.specs.declared.fault.FormatError.TheVariants as format
use Rattle.paint.specs.declared.refused.Refused.{Refused}
use Rattle.paint.specs.declared.refused.Refused.TheVariants as coats
use Rattle.paint.specs.declared.fault.Fault.{Fault}
use Rattle.paint.specs.declared.fault.Fault.TheVariants as faults

-- A fault with a place, a word for what is counted and its number, and why it is one.
unfoldable pub place_line : ℕ → List ℕ → ℕ → List ℕ → List ℕ
place_line number word place why =
    codes "paint: fault " ++ decimal number ++ codes " " ++ word ++ codes " " ++ decimal place
    ++ codes " (" ++ why ++ codes ")\n"

-- A fault without a place.
unfoldable pub bare_line : ℕ → List ℕ → List ℕ
bare_line number why = codes "paint: fault " ++ decimal number ++ codes " (" ++ why ++ codes ")\n"

-- A fault of a stream text. Want of memory is none, and has a line of its own.
abbrev pub stream_line : FormatError → List ℕ
stream_line format.BadMagic = bare_line 20 (codes "it begins otherwise than a stream")
stream_line (format.BadVersion version) = place_line 21 (codes "version") version (codes "unknown")
stream_line (format.BadDigits digits) =
    place_line 33 (codes "digits") digits (codes "not 1 to 4")
stream_line (format.Truncated bytes) = place_line 22 (codes "byte") bytes (codes "cut off")
stream_line format.BadCount = bare_line 23 (codes "the counts break their rule")
stream_line (format.BadRoot root) = place_line 24 (codes "root") root (codes "not in its place")
stream_line (format.BadFace face) =
    place_line 25 (codes "face") face (codes "not between three roots")
stream_line (format.BadRecord k) =
    place_line 26 (codes "record") k (codes "it doesn't fit those before it")
stream_line (format.BadInput field) = place_line 27 (codes "input") field (codes "a wrong number")
stream_line format.OutOfMemory = codes "paint: out of memory\n"

-- A fault at a byte of a coat, from 1.
abbrev pub byte_line : ℕ → ℕ → List ℕ → List ℕ
byte_line number byte why = place_line number (codes "byte") byte why

-- A fault of a coat.
abbrev pub refused_line : Refused → List ℕ
refused_line coats.NoCoat = byte_line 61 1 (codes "no coat follows the stream")
refused_line coats.Version = byte_line 62 5 (codes "the version is unknown")
refused_line coats.Vertices = byte_line 63 9 (codes "not as many vertices as leaves")
refused_line coats.Faces = byte_line 64 13 (codes "not as many faces as the stream")
refused_line coats.Parts = byte_line 65 17 (codes "the parts aren't from 1 to 7")
refused_line (coats.Cut byte) = byte_line 66 byte (codes "the coat is cut off")
refused_line (coats.Number byte) = byte_line 67 byte (codes "beyond 32 widths of the image")
refused_line (coats.Filler byte) = byte_line 68 byte (codes "a filler that isn't 0")
refused_line (coats.Trailing byte) = byte_line 69 byte (codes "bytes follow the coat")

-- A fault.
unfoldable pub fault_line : Fault → List ℕ
fault_line (faults.Stream e) = stream_line e
fault_line (faults.Coat e) = refused_line e
