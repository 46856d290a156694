-- The words of a command line.
use Rattle.std.specs.Prelude.{◌≡◌, ℕ, nat_eq, List, [], ◌∷◌, map, drop, Option, Some, None}
use Rattle.std.specs.Prelude.{Ok, Err, if◌then◌else◌, codes}
use Rattle.std.specs.Cmp.Lexicographic.{pointwise}
use Rattle.std.specs.String.{string_bytes}
use Rattle.std.specs.Vec.Iter.{into_iter_items}
use Rattle.pm_io.specs.Digits.{unsigned_of}
use Rattle.pm_program.specs.declared.request.Request.{Request}
use Rattle.pm_program.specs.declared.request.Request.TheVariants as requests
use Rattle.pm_program.specs.Endings.{Arguments}
use Rattle.pm_program.specs.Requests.{text_asked}
use Rattle.pack.specs.declared.words.TheConstants.{MOST_RECORDS}
use Rattle.pack.specs.declared.words.Asked.{Asked}
use Rattle.pack.specs.declared.words.Asked.TheVariants as asked

-- What a number of records asks for, where it is one.
abbrev pub first_asked : Option ℕ → Option (Request Asked)
first_asked None = None
first_asked (Some n) = Some (requests.Work (asked.UnpackFirst n))

-- No word asks to pack, `--unpack` to unpack, `--unpack --records` and a number to unpack as many
-- of the first records, and `--help` or `--version` for a text. Other words ask for nothing.
abbrev pub asked_by : List (List ℕ) → Option (Request Asked)
asked_by [] = Some (requests.Work asked.Pack)
asked_by (word ∷ []) =
    if pointwise nat_eq word (codes "--unpack") then Some (requests.Work asked.Unpack)
    else text_asked word
asked_by (word ∷ flag ∷ count ∷ []) =
    if pointwise nat_eq word (codes "--unpack") then
    (if pointwise nat_eq flag (codes "--records") then first_asked (unsigned_of MOST_RECORDS count)
    else None)
    else None
asked_by _ = None

-- The same of the arguments of a program, of which the first is its name. None are understood where
-- they can't be gathered.
abbrev pub asked_of : Arguments → Option (Request Asked)
asked_of (Ok args) = asked_by (map string_bytes (drop 1 (into_iter_items args)))
asked_of (Err e) = None

-- The arguments ask for this.
abbrev pub Asks : Arguments → Asked → Type 0
Asks args asked = asked_of args ≡ Some (requests.Work asked)
