-- What crosses to C of a stream that isn't packed, or a packed text that isn't unpacked.
use Rattle.std.specs.Prelude.{◌≡◌, ℕ, List, Option, Some}
use Rattle.pm_pack.specs.declared.fault.Fault.{Fault}
use Rattle.pm_pack.specs.declared.writing.PackFail.{PackFail}
use Rattle.pm_pack.specs.declared.reading.UnpackFail.{UnpackFail}
use Rattle.pm_pack.specs.Packed.{IsStream, IsPacked}
use Rattle.pm_pack.specs.Packing.{IsPackFail}
use Rattle.pm_pack.specs.Unpacking.{IsFail}
use Rattle.pm_pack.specs.Beginnings.{IsBeginningFail}
use Rattle.pm_pack.specs.Faults.{number_of, unit_of, pack_fault, unpack_fault}
use Rattle.vdpm_c.specs.declared.tables.FaultTold.{FaultTold}
use Rattle.vdpm_c.specs.Border.{place_told}

-- This is the number of the fault, and of the unit that has it, as `pack` says them.
pub record IsToldOf (found : Option Fault) (told : FaultTold) : Type 0 where
  pub fault : Fault
  pub is : found ≡ Some fault
  pub number_is : told.number ≡ number_of fault
  pub place_is : told.place ≡ place_told (unit_of fault)

-- The bytes were refused as `pack` refuses them: they are no stream text, for this fault.
pub record RefusedStream (bytes : List ℕ) (told : FaultTold) : Type 0 where
  pub fail : PackFail
  pub is : IsPackFail bytes fail
  pub none : ¬ IsStream bytes
  pub tells : IsToldOf (pack_fault fail) told

-- The bytes were refused as `pack --unpack` refuses them: they are no packed text, for this fault.
pub record RefusedPacked (bytes : List ℕ) (told : FaultTold) : Type 0 where
  pub fail : UnpackFail
  pub is : IsFail bytes fail
  pub none : (text : List ℕ) → ¬ IsPacked bytes text
  pub tells : IsToldOf (unpack_fault fail) told

-- The bytes were refused as `pack --unpack --records` refuses them, for this fault.
pub record RefusedBeginning (bytes : List ℕ) (n : ℕ) (told : FaultTold) : Type 0 where
  pub fail : UnpackFail
  pub is : IsBeginningFail bytes n fail
  pub tells : IsToldOf (unpack_fault fail) told
