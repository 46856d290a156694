-- The index of a vertex in a field of a line.
use Rattle.std.specs.Prelude.{ℕ, ◌-◌, List, Bool, not, ◌==◌, ◌&&◌, ◌||◌, nat_lt, length, drop}
use Rattle.std.specs.Prelude.{Result, Ok, Err, if◌then◌else◌}
use Rattle.pm_io.specs.Digits.{are_digits, value}
use Rattle.obj_lines.specs.Text.{until}
use Rattle.obj_read.specs.declared.fault.ObjFault.{ObjFault}
use Rattle.obj_read.specs.declared.fault.ObjFault.TheVariants as faults
use Rattle.obj_read.specs.Coordinates.{is_negative}
use Rattle.pm_io.specs.Letters.{slash}

-- What is read of the field of a corner.
unfoldable pub index_text : List ℕ → List ℕ
index_text field = until slash field

-- An index without its minus sign.
unfoldable pub index_digits : List ℕ → List ℕ
index_digits text = if is_negative text then drop 1 text else text

-- Digits alone, and at least one.
abbrev pub has_digits : List ℕ → Bool
has_digits text = are_digits text && nat_lt 0 (length text)

-- The number from 0 of the vertex that an index names after so many vertices, or the index's first
-- fault. Index 1 is the first vertex, and -1 the last one.
unfoldable pub index : ℕ → List ℕ → Result ℕ ObjFault
index vertices text =
    if not (are_digits (index_digits text) && nat_lt 0 (length (index_digits text))) then
    Err faults.BadNumber
    else if value 0 (index_digits text) == 0 || nat_lt vertices (value 0 (index_digits text)) then
    Err faults.BadIndex
    else Ok (if is_negative text then vertices - value 0 (index_digits text)
    else value 0 (index_digits text) - 1)
