-- A refusal to pack or unpack that is told.
use Rattle.std.proofs.Common.{◌≡◌, ◌≢◌, ℕ, List, Option, Some, subst}
use Rattle.pm_pack.specs.declared.fault.Fault.{Fault}
use Rattle.pm_pack.specs.declared.writing.PackFail.{PackFail}
use Rattle.pm_pack.specs.declared.writing.PackFail.TheVariants as packs
use Rattle.pm_pack.specs.declared.reading.UnpackFail.{UnpackFail}
use Rattle.pm_pack.specs.declared.reading.UnpackFail.TheVariants as unpacks
use Rattle.pm_pack.specs.Packed.{IsStream, IsPacked}
use Rattle.pm_pack.specs.Packing.{IsPackFail}
use Rattle.pm_pack.specs.Unpacking.{IsFail}
use Rattle.pm_pack.specs.Faults.{pack_fault, unpack_fault}
use Rattle.vdpm_c.specs.declared.tables.FaultTold.{FaultTold}
use Rattle.vdpm_c.specs.Packing.{IsToldOf, RefusedStream, RefusedPacked}

-- What has a fault doesn't want memory.
pack_apart : (fail : PackFail) (fault : Fault) → pack_fault fail ≡ Some fault
    → fail ≢ packs.OutOfMemory
pack_apart (packs.Stream e) fault is = λ same. cc
pack_apart packs.Trailing fault is = λ same. cc
pack_apart packs.OutOfMemory fault is = absurd cc

unpack_apart : (fail : UnpackFail) (fault : Fault) → unpack_fault fail ≡ Some fault
    → fail ≢ unpacks.OutOfMemory
unpack_apart unpacks.NotPacked fault is = λ same. cc
unpack_apart unpacks.Cut fault is = λ same. cc
unpack_apart unpacks.Trailing fault is = λ same. cc
unpack_apart (unpacks.Stream e) fault is = λ same. cc
unpack_apart unpacks.OutOfMemory fault is = absurd cc

pub refused_stream :
    (bytes : List ℕ) (fail : PackFail) (found : Option Fault) (told : FaultTold)
    → found ≡ pack_fault fail → IsPackFail bytes fail
    → (fail ≢ packs.OutOfMemory → ¬ IsStream bytes) → IsToldOf found told
    → RefusedStream bytes told
refused_stream bytes fail found told same why none it =
    let tells = subst (λ (f : Option Fault). IsToldOf f told) same it in record {
      fail = fail;
      is = why;
      none = none (pack_apart fail tells.fault tells.is);
      tells = tells;
    }

pub refused_packed :
    (bytes : List ℕ) (fail : UnpackFail) (found : Option Fault) (told : FaultTold)
    → found ≡ unpack_fault fail → IsFail bytes fail
    → (fail ≢ unpacks.OutOfMemory → (text : List ℕ) → ¬ IsPacked bytes text)
    → IsToldOf found told → RefusedPacked bytes told
refused_packed bytes fail found told same why none it =
    let tells = subst (λ (f : Option Fault). IsToldOf f told) same it in record {
      fail = fail;
      is = why;
      none = none (unpack_apart fail tells.fault tells.is);
      tells = tells;
    }
