-- The form of a text: how its lines end, and how it begins. Bytes 239, 187 and 191 are EF
-- BB BF; 254 and 255 are FE and FF.
use Rattle.std.specs.Prelude.{ℕ, List, [], ◌∷◌, Bool, false, ◌==◌, ◌&&◌, ◌||◌, nat_lt, length}
use Rattle.std.specs.Prelude.{drop, slice_index_or, Option, Some, None, if◌then◌else◌}
use Rattle.obj_lines.specs.Text.{content}
use Rattle.obj_scan.specs.declared.fault.ScanFault.{ScanFault}
use Rattle.obj_scan.specs.declared.fault.ScanFault.TheVariants as faults
use Rattle.pm_io.specs.Letters.{carriage_return}

-- A CR stands before another byte of the line.
abbrev pub has_lone_return : List ℕ → Bool
has_lone_return [] = false
has_lone_return (b ∷ text) = b == carriage_return && nat_lt 0 (length text) || has_lone_return text

-- A text begins with EF BB BF, the byte order mark of UTF-8.
unfoldable pub is_marked : List ℕ → Bool
is_marked text = nat_lt 2 (length text) && slice_index_or text 0 0 == 239
    && slice_index_or text 1 0 == 187 && slice_index_or text 2 0 == 191

unfoldable pub without_mark : List ℕ → List ℕ
without_mark text = if is_marked text then drop 3 text else text

-- A text begins with FF FE or FE FF, as one of 16 bits a letter does.
unfoldable pub is_wide : List ℕ → Bool
is_wide text =
    nat_lt 1 (length text)
    && (slice_index_or text 0 0 == 255
    && slice_index_or text 1 0 == 254 || slice_index_or text 0 0 == 254
    && slice_index_or text 1 0 == 255)

-- What is read of the line with this number, which stands here without its LF. A byte order mark
-- before the first is passed
-- over.
unfoldable pub line_content : ℕ → List ℕ → List ℕ
line_content number text = if number == 1 then without_mark (content text) else content text

-- What is wrong with the form of the line with this number.
unfoldable pub form_fault : ℕ → List ℕ → Option ScanFault
form_fault number text =
    if number == 1 && is_wide (content text) then Some faults.SixteenBits
    else if has_lone_return text then Some faults.LoneReturn
    else None
