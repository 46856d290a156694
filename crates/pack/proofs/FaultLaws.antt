-- A fault for which bytes aren't packed or unpacked.
use Rattle.std.proofs.Common.{◌≡◌, refl}
use Rattle.pm_pack.specs.declared.writing.PackFail.{PackFail}
use Rattle.pm_pack.specs.declared.writing.PackFail.TheVariants as packs
use Rattle.pm_pack.specs.declared.reading.UnpackFail.{UnpackFail}
use Rattle.pm_pack.specs.declared.reading.UnpackFail.TheVariants as unpacks
use Rattle.pm_pack.specs.Faults.{pack_fault, unpack_fault}
use Rattle.pack.specs.Making.{fault_fail, pack_fail, unpack_fail}

pub pack_fails : (fail : PackFail) → fault_fail (pack_fault fail) ≡ pack_fail fail
pack_fails (packs.Stream e) = refl
pack_fails packs.Trailing = refl
pack_fails packs.OutOfMemory = refl

pub unpack_fails : (fail : UnpackFail) → fault_fail (unpack_fault fail) ≡ unpack_fail fail
unpack_fails unpacks.NotPacked = refl
unpack_fails unpacks.Cut = refl
unpack_fails unpacks.Trailing = refl
unpack_fails (unpacks.Stream e) = refl
unpack_fails unpacks.OutOfMemory = refl
