-- What comes next, unless there is a fault.
use Rattle.std.specs.Prelude.{ℕ, Result, Ok, Err}
use Rattle.ply_read.specs.declared.fault.PlyFault.{PlyFault}
use Rattle.ply_read.specs.declared.fault.Refused.{Refused}
use Rattle.ply_read.specs.declared.fault.Spot.TheVariants as spots

infixl 10 ◌>>=◌
abbrev pub ◌>>=◌ : {A B E : Type 0} → Result A E → (A → Result B E) → Result B E
Ok a >>= next = next a
Err e >>= next = Err e

-- A fault at a line.
abbrev pub refused : {A : Type 0} → PlyFault → ℕ → Result A Refused
refused fault line = Err (record { fault = fault; spot = spots.Line line })
