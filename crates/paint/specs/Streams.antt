-- The stream text that bytes begin with.
use Rattle.std.specs.Prelude.{◌≡◌, ℕ, List, ◌++◌, Some}
use Rattle.pm_forest.specs.Forest.{Hierarchy}
use Rattle.pm_format.specs.declared.fault.FormatError.{FormatError}
use Rattle.pm_format.specs.declared.fault.FormatError.TheVariants as format
use Rattle.pm_format.specs.Faults.{stream_fault}
use Rattle.pm_format.specs.Standing.{IsText}
use Rattle.paint.specs.declared.fault.Fault.{Fault}
use Rattle.paint.specs.declared.fault.Fault.TheVariants as faults
use Rattle.pm_program.specs.declared.making.MakeFail.{MakeFail}
use Rattle.pm_program.specs.declared.making.MakeFail.TheVariants as fails

-- The bytes are the stream text of this hierarchy, of the right shape, and then the rest.
pub record BeginsWith (bytes : List ℕ) (h : Hierarchy) (rest : List ℕ) : Type 0 where
  pub digits : ℕ
  pub text : List ℕ
  pub is : IsText text digits h
  pub all : bytes ≡ text ++ rest

-- Why no stream text is read.
abbrev pub IsUnread : List ℕ → MakeFail Fault → Type 0
IsUnread bytes (fails.Faulty (faults.Stream e)) = stream_fault bytes ≡ Some e
IsUnread bytes (fails.Faulty (faults.Coat e)) = ⊥
IsUnread bytes fails.OutOfMemory = Unit {0}

-- Want of memory is no fault of the input.
abbrev pub stream_fail : FormatError → MakeFail Fault
stream_fail format.OutOfMemory = fails.OutOfMemory
stream_fail fault = fails.Faulty (faults.Stream fault)
