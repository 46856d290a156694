-- The words of a command line.
use Rattle.std.specs.Prelude.{◌≡◌, ℕ, List, [], ◌∷◌, map, drop, Option, Some, None, Ok, Err}
use Rattle.std.specs.String.{string_bytes}
use Rattle.std.specs.Vec.Iter.{into_iter_items}
use Rattle.pm_program.specs.declared.request.Request.{Request}
use Rattle.pm_program.specs.declared.request.Request.TheVariants as requests
use Rattle.pm_program.specs.Endings.{Arguments}
use Rattle.pm_program.specs.Requests.{text_asked}

-- No word asks for the lines of a coat, and `--help` or `--version` for a text. Other words ask for
-- nothing.
abbrev pub asked_by : List (List ℕ) → Option (Request (Unit {0}))
asked_by [] = Some (requests.Work tt)
asked_by (word ∷ []) = text_asked word
asked_by _ = None

-- The same of the arguments of a program, of which the first is its name. None are understood where
-- they can't be gathered.
abbrev pub asked_of : Arguments → Option (Request (Unit {0}))
asked_of (Ok args) = asked_by (map string_bytes (drop 1 (into_iter_items args)))
asked_of (Err e) = None

-- The arguments ask for the lines.
abbrev pub Asks : Arguments → Type 0
Asks args = asked_of args ≡ Some (requests.Work tt)
