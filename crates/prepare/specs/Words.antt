-- The words of a command line.
use Rattle.std.specs.Prelude.{◌≡◌, ℕ, ◌==◌, List, [], ◌∷◌, map, drop, Option, Some, None, Ok, Err}
use Rattle.std.specs.Prelude.{if◌then◌else◌}
use Rattle.std.specs.String.{string_bytes}
use Rattle.std.specs.Vec.Iter.{into_iter_items}
use Rattle.pm_base.specs.declared.limits.TheConstants.{GREATEST_COORDINATE}
use Rattle.pm_io.specs.Digits.{unsigned_of}
use Rattle.pm_program.specs.declared.request.Request.{Request}
use Rattle.pm_program.specs.declared.request.Request.TheVariants as requests
use Rattle.pm_program.specs.Endings.{Arguments}
use Rattle.pm_program.specs.Requests.{text_asked}
use Rattle.obj_prepare.specs.Placing.{IsSize}
use Rattle.prepare.specs.declared.words.Asked.{Asked}

-- What a word asks for, where it is this number or none. 0 is no size.
abbrev pub with_word : List ℕ → Option ℕ → Option (Request Asked)
with_word word None = text_asked word
with_word word (Some n) = if n == 0 then None else Some (requests.Work (record { size = Some n }))

-- What the words ask for: none, or a number from 1 to 32,767, the size; or `--help` or `--version`,
-- a text. Other words ask for nothing.
abbrev pub asked_by : List (List ℕ) → Option (Request Asked)
asked_by [] = Some (requests.Work (record { size = None }))
asked_by (word ∷ []) = with_word word (unsigned_of GREATEST_COORDINATE word)
asked_by _ = None

-- The same of the arguments of a program, of which the first is its name. None are understood where
-- they can't be gathered.
abbrev pub asked_of : Arguments → Option (Request Asked)
asked_of (Ok args) = asked_by (map string_bytes (drop 1 (into_iter_items args)))
asked_of (Err e) = None

-- The arguments ask for this.
abbrev pub Asks : Arguments → Asked → Type 0
Asks args asked = asked_of args ≡ Some (requests.Work asked)

-- The size that is asked for is one.
abbrev pub HasSize : Request Asked → Type 0
HasSize (requests.Work asked) = IsSize asked.size
HasSize requests.Help = Unit {0}
HasSize requests.Version = Unit {0}
