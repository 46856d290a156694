-- The line that the program puts on the error sink where it ends early.
use Rattle.std.specs.Prelude.{ℕ, List, ◌++◌, codes}
use Rattle.std.specs.Fmt.{decimal}
use Rattle.pm_format.specs.declared.fault.FormatError.{FormatError}
use Rattle.pm_format.specs.declared.fault.FormatError.TheVariants as format
use Rattle.pm_pack.specs.declared.fault.Fault.{Fault}
use Rattle.pm_pack.specs.declared.fault.Fault.TheVariants as faults

-- A fault with a place, a word for what is counted and its number, and why it is one.
unfoldable pub place_line : ℕ → List ℕ → ℕ → List ℕ → List ℕ
place_line number word place why =
    codes "pack: fault " ++ decimal number ++ codes " " ++ word ++ codes " " ++ decimal place
    ++ codes " (" ++ why ++ codes ")\n"

-- A fault without a place.
unfoldable pub bare_line : ℕ → List ℕ → List ℕ
bare_line number why = codes "pack: fault " ++ decimal number ++ codes " (" ++ why ++ codes ")\n"

-- A fault of a stream text. Want of memory is none, and has a line of its own.
abbrev pub stream_line : FormatError → List ℕ
stream_line format.BadMagic = bare_line 20 (codes "it begins otherwise than a stream")
stream_line (format.BadVersion version) = place_line 21 (codes "version") version (codes "unknown")
stream_line (format.BadDigits digits) =
    place_line 33 (codes "digits") digits (codes "not 1 to 4")
stream_line (format.Truncated bytes) = place_line 22 (codes "byte") bytes (codes "cut off")
stream_line format.BadCount = bare_line 23 (codes "the counts break their rule")
stream_line (format.BadRoot root) = place_line 24 (codes "root") root (codes "not in its place")
stream_line (format.BadFace face) =
    place_line 25 (codes "face") face (codes "not between three roots")
stream_line (format.BadRecord k) =
    place_line 26 (codes "record") k (codes "it doesn't fit those before it")
stream_line (format.BadInput field) = place_line 27 (codes "input") field (codes "a wrong number")
stream_line format.OutOfMemory = codes "pack: out of memory\n"

-- A fault.
unfoldable pub fault_line : Fault → List ℕ
fault_line (faults.Stream e) = stream_line e
fault_line faults.Trailing = bare_line 29 (codes "bytes follow the stream")
fault_line faults.NotPacked = bare_line 34 (codes "it begins otherwise than a packed text")
fault_line faults.Cut = bare_line 35 (codes "the packed text is cut off or damaged")
fault_line faults.PackedTrailing = bare_line 36 (codes "bytes follow the packed text")
