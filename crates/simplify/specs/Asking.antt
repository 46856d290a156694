-- What the words or the arguments of `simplify` ask for.
use Rattle.std.specs.Prelude.{◌≡◌, List, String, Option, Some, None, Ok, Err, map, drop}
use Rattle.std.specs.String.{string_bytes}
use Rattle.std.specs.declared.alloc.Global.{Global}
use Rattle.std.specs.Vec.Iter.{into_iter_items}
use Rattle.pm_program.specs.declared.request.Request.{Request}
use Rattle.pm_program.specs.declared.request.Request.TheVariants as requests
use Rattle.pm_program.specs.Endings.{Arguments}
use Rattle.pm_commands.specs.declared.asked.Asked.{Asked}
use Rattle.simplify.specs.Words.{asked_by}

-- These words ask for this work.
abbrev pub Asks : List (String Global) → Asked → Type 0
Asks words asked = asked_by (map string_bytes words) ≡ Some (requests.Work asked)

-- What the words after the first of these arguments ask for, which is the program's name. None are
-- understood where they can't be gathered.
abbrev pub asked_of : Arguments → Option (Request Asked)
asked_of (Ok args) = asked_by (map string_bytes (drop 1 (into_iter_items args)))
asked_of (Err e) = None

-- These arguments ask for this work.
abbrev pub ArgsAsk : Arguments → Asked → Type 0
ArgsAsk args asked = asked_of args ≡ Some (requests.Work asked)
