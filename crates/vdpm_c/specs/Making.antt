-- What crosses to C of what is made of a text.
use Rattle.std.specs.Prelude.{◌≡◌, ℕ, zero, suc, List, Option, None, Some, IsSome, Result}
use Rattle.pm_forest.specs.Forest.{Hierarchy}
use Rattle.pm_commands.specs.declared.asked.Border.{Border}
use Rattle.pm_commands.specs.declared.asked.Border.TheVariants as borders
use Rattle.pm_commands.specs.declared.fault.Fault.{Fault}
use Rattle.pm_commands.specs.Input.{IsFaulty}
use Rattle.pm_viewer.specs.Causes.{Tells}
use Rattle.obj_fit.specs.declared.fault.Fault as fit
use Rattle.obj_fit.specs.Fails.{HasPreparedFault, number_of, line_of, byte_of}
use Rattle.pm_making.specs.declared.fail.BuildFail.{BuildFail}
use Rattle.pm_making.specs.declared.fail.BuildFail.TheVariants as fails
use Rattle.pm_making.specs.Making.{MadeText}
use Rattle.vdpm_c.specs.declared.tables.MadeHandle.{MadeHandle}
use Rattle.vdpm_c.specs.declared.tables.FaultTold.{FaultTold}
use Rattle.vdpm_c.specs.Border.{place_told}

-- A handle that is open has what was made. C owes it, and each function leaves it so.
abbrev pub IsWhole : MadeHandle → Type 0
IsWhole handle = handle.open ≡ 1 → IsSome handle.slot.value

-- The handle is open, with what was made.
abbrev pub HasMade : MadeHandle → MadeText → Type 0
HasMade handle m = (handle.open ≡ 1) × (handle.slot.value ≡ Some m)

-- No fault is told.
abbrev pub no_fault : FaultTold
no_fault = record { number = 0; place = 0 }

-- This is the number of the fault for which nothing is made, and its place, as the line says them
-- that the program says.
pub record FaultIsTold (fail : BuildFail) (told : FaultTold) : Type 0 where
  pub fault : Fault
  pub is : fail ≡ fails.Faulty fault
  pub place : Option ℕ
  pub place_is : told.place ≡ place_told place
  pub tells : Tells fault told.number place

-- The text was refused as the program refuses it, where `IsMade` says what it makes, and the line
-- that it says has this number and this place.
pub record RefusedText
    (IsMade : List ℕ → Result Hierarchy Fault → Option ℕ → Type 0) (text : List ℕ)
    (told : FaultTold) : Type 0 where
  pub fault : Fault
  pub is : IsFaulty IsMade text fault
  pub place : Option ℕ
  pub place_is : told.place ≡ place_told place
  pub tells : Tells fault told.number place

-- What becomes of the border, by a number: 0 leaves it free.
abbrev pub border_told : ℕ → Border
border_told zero = borders.Free
border_told (suc n) = borders.Kept

-- The size that is told by a number: 0 tells none.
abbrev pub size_told : ℕ → Option ℕ
size_told zero = None
size_told (suc n) = Some (suc n)

-- The first of two numbers that is there.
abbrev pub first_of : Option ℕ → Option ℕ → Option ℕ
first_of (Some line) byte = Some line
first_of None byte = byte

-- The text was refused as `prepare` refuses it, and this is the number of its fault, and its line,
-- or else its byte.
pub record UnfitText (size : Option ℕ) (text : List ℕ) (told : FaultTold) : Type 0 where
  pub fault : fit.Fault
  pub is : HasPreparedFault size text fault
  pub number_is : told.number ≡ number_of fault
  pub place_is : told.place ≡ place_told (first_of (line_of fault) (byte_of fault))
