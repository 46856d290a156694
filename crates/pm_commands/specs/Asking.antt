-- What words or arguments ask for, by what a program reads in words.
use Rattle.std.specs.Prelude.{◌≡◌, ℕ, List, String, Option, Some, Result, Ok, Err, map, drop}
use Rattle.std.specs.String.{string_bytes}
use Rattle.std.specs.declared.alloc.Global.{Global}
use Rattle.std.specs.declared.io.Error.{Error}
use Rattle.std.specs.declared.vec.IntoIter.{IntoIter}
use Rattle.std.specs.Vec.Iter.{into_iter_items}
use Rattle.pm_commands.specs.declared.asked.Asked.{Asked}

-- These words ask for this.
abbrev pub AskBy : (List (List ℕ) → Option Asked) → List (String Global) → Asked → Type 0
AskBy reads words asked = reads (map string_bytes words) ≡ Some asked

-- The arguments were gathered, and the words after the first of them, which is the program's name,
-- ask for this.
abbrev pub ArgsAskBy : (List (List ℕ) → Option Asked)
    → Result (IntoIter (String Global) Global) Error → Asked → Type 0
ArgsAskBy reads (Ok args) asked = AskBy reads (drop 1 (into_iter_items args)) asked
ArgsAskBy reads (Err error) asked = ⊥
