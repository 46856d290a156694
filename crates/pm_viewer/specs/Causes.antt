-- Why bytes open no viewer, and a fault as numbers.
use Rattle.std.specs.Prelude.{◌≡◌, ℕ, Bool, true, false, List, Option, Some, None}
use Rattle.pm_format.specs.declared.fault.FormatError.TheVariants as format
use Rattle.pm_commands.specs.declared.fault.Fault.{Fault}
use Rattle.pm_commands.specs.declared.fault.Fault.TheVariants as faults
use Rattle.pm_commands.specs.Input.{IsFaulty}
use Rattle.pm_commands.specs.Beginning.{IsHierarchyText}
use Rattle.pm_viewer.specs.declared.fail.OpenFail.{OpenFail}
use Rattle.pm_viewer.specs.declared.fail.OpenFail.TheVariants as fails
use Rattle.pm_commands.specs.FaultText.{place_text, bare_text, fault_text}

-- The line that the programs say of the fault has this number, and this place if it has one.
abbrev pub Tells : Fault → ℕ → Option ℕ → Type 0
Tells f number None = fault_text f ≡ bare_text number
Tells f number (Some place) = (word : List ℕ) × (fault_text f ≡ place_text number word place)

-- A fault that a stream can have. Want of memory is none.
abbrev pub is_stream_fault : Fault → Bool
is_stream_fault (faults.Stream format.OutOfMemory) = false
is_stream_fault (faults.Stream e) = true
is_stream_fault (faults.BadNeighbour k) = true
is_stream_fault faults.Trailing = true
is_stream_fault (faults.LeafEdgeTwice f) = true
is_stream_fault f = false

-- Why bytes open no viewer: they have a fault, as `check` says. Want of memory is none of theirs.
abbrev pub IsRefusal : List ℕ → OpenFail → Type 0
IsRefusal bytes (fails.Faulty f) = IsFaulty IsHierarchyText bytes f
IsRefusal bytes fails.OutOfMemory = Unit {0}
