-- The first fault of a file, and what comes before it.
use Rattle.std.specs.Prelude.{ℕ, Result, Ok, Err}
use Rattle.float_read.specs.declared.fault.FloatFault.{FloatFault}
use Rattle.float_read.specs.declared.fault.FloatFault.TheVariants as floats
use Rattle.stl_read.specs.declared.fault.StlFault.{StlFault}
use Rattle.stl_read.specs.declared.fault.StlFault.TheVariants as faults
use Rattle.stl_read.specs.declared.fault.Refused.{Refused}

-- What comes next, unless there is a fault.
infixl 10 ◌>>=◌
abbrev pub ◌>>=◌ : {A B : Type 0} → Result A Refused → (A → Result B Refused) → Result B Refused
Ok a >>= next = next a
Err e >>= next = Err e

-- A fault at a place.
abbrev pub refused : {A : Type 0} → StlFault → ℕ → Result A Refused
refused fault place = Err (record { fault = fault; place = place })

abbrev pub of_number : FloatFault → StlFault
of_number floats.NotFinite = faults.NotFinite
of_number floats.TooLarge = faults.TooLarge
