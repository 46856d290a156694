-- The numbers after a header, one after the other: words of a text, or bytes.
use Rattle.std.specs.Prelude.{ℕ, ◌+◌, ◌==◌, nat_lt, List, length, take, drop, ℤ, Option, Some, None}
use Rattle.std.specs.Prelude.{Result, Ok, Err, if◌then◌else◌}
use Rattle.float_read.specs.declared.fault.FloatFault.{FloatFault}
use Rattle.float_read.specs.declared.fault.FloatFault.TheVariants as floats
use Rattle.obj_read.specs.declared.fault.ObjFault.{ObjFault}
use Rattle.obj_read.specs.declared.fault.ObjFault.TheVariants as decimals
use Rattle.obj_prepare.specs.Numbers.{decimal_coordinate}
use Rattle.pm_io.specs.Digits.{unsigned_of}
use Rattle.ply_read.specs.declared.declared.Encoding.{Encoding}
use Rattle.ply_read.specs.declared.declared.Encoding.TheVariants as encodings
use Rattle.ply_read.specs.declared.declared.ScalarType.{ScalarType}
use Rattle.ply_read.specs.declared.fault.PlyFault.{PlyFault}
use Rattle.ply_read.specs.declared.fault.PlyFault.TheVariants as faults
use Rattle.ply_read.specs.declared.stop.Stop.{Stop}
use Rattle.ply_read.specs.Results.{◌>>=◌}
use Rattle.ply_read.specs.Numbers.{size, binary_coordinate, binary_whole}
use Rattle.ply_read.specs.Steps.{stopped, repeated}
use Rattle.ply_read.specs.Words.{from_word, word}

-- What a number is written as, and what stands after it.
pub record Item : Type 0 where
  pub bytes : List ℕ
  pub after : List ℕ

unfoldable pub word_item : List ℕ → Result Item Stop
word_item rest =
    if length rest == 0 then stopped faults.CutOff 0
    else Ok (record { bytes = word rest; after = drop (length (word rest)) rest })

unfoldable pub bytes_item : ℕ → List ℕ → Result Item Stop
bytes_item n rest =
    if nat_lt (length rest) n then stopped faults.CutOff 0
    else Ok (record { bytes = take n rest; after = drop n rest })

abbrev pub next_item : Encoding → ScalarType → List ℕ → Result Item Stop
next_item encodings.Ascii t rest = word_item (from_word rest)
next_item (encodings.Binary order) t rest = bytes_item (size t) rest

-- What it stands for, or the fault, at its front.
abbrev pub valued : {A : Type 0} → Item → Result A PlyFault → Result (A × List ℕ) Stop
valued i (Ok x) = Ok (x, i.after)
valued i (Err fault) = stopped fault (length i.bytes + length i.after)

abbrev pub of_decimal : Result ℤ ObjFault → Result ℤ PlyFault
of_decimal (Ok x) = Ok x
of_decimal (Err decimals.OutOfRange) = Err faults.TooLarge
of_decimal (Err _) = Err faults.BadNumber

abbrev pub of_float : Result ℤ FloatFault → Result ℤ PlyFault
of_float (Ok x) = Ok x
of_float (Err floats.NotFinite) = Err faults.NotFinite
of_float (Err floats.TooLarge) = Err faults.TooLarge

abbrev pub of_whole : Option ℕ → Result ℕ PlyFault
of_whole (Some n) = Ok n
of_whole None = Err faults.BadNumber

abbrev pub coordinate_of : Encoding → ScalarType → List ℕ → Result ℤ PlyFault
coordinate_of encodings.Ascii t bytes = of_decimal (decimal_coordinate bytes)
coordinate_of (encodings.Binary order) t bytes = of_float (binary_coordinate order t bytes)

abbrev pub whole_of : Encoding → ScalarType → List ℕ → Result ℕ PlyFault
whole_of encodings.Ascii t bytes = of_whole (unsigned_of 4294967295 bytes)
whole_of (encodings.Binary order) t bytes = of_whole (binary_whole order t bytes)

-- The number of a vertex of so many.
abbrev pub among : ℕ → Result ℕ PlyFault → Result ℕ PlyFault
among vertices (Ok v) = if nat_lt v vertices then Ok v else Err faults.BadIndex
among vertices (Err fault) = Err fault

-- A coordinate, a count, and a vertex, with what stands after them.
unfoldable pub coordinate : Encoding → ScalarType → List ℕ → Result (ℤ × List ℕ) Stop
coordinate e t rest = next_item e t rest >>= λ i. valued i (coordinate_of e t i.bytes)

unfoldable pub count : Encoding → ScalarType → List ℕ → Result (ℕ × List ℕ) Stop
count e t rest = next_item e t rest >>= λ i. valued i (whole_of e t i.bytes)

unfoldable pub vertex : Encoding → ℕ → ScalarType → List ℕ → Result (ℕ × List ℕ) Stop
vertex e vertices t rest =
    next_item e t rest >>= λ i. valued i (among vertices (whole_of e t i.bytes))

-- What stands after a number, and after so many.
unfoldable pub after_item : Encoding → ScalarType → List ℕ → Result (List ℕ) Stop
after_item e t rest = next_item e t rest >>= λ i. Ok i.after

abbrev pub after_items : Encoding → ScalarType → ℕ × List ℕ → Result (List ℕ) Stop
after_items e t c = repeated (after_item e t) c.0 c.1

-- What stands after the value of a property that is passed over.
abbrev pub after_value : Encoding → Option ScalarType → ScalarType → List ℕ
    → Result (List ℕ) Stop
after_value e None t rest = after_item e t rest
after_value e (Some c) t rest = count e c rest >>= after_items e t
