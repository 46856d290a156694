-- What is made of bytes.
use Rattle.std.specs.Prelude.{◌≡◌, ℕ, List, Option, Some, None}
use Rattle.pm_format.specs.Faults.{stream_fault}
use Rattle.pm_pack.specs.Packed.{IsPacked}
use Rattle.pm_pack.specs.Packing.{IsFollowed}
use Rattle.pm_pack.specs.Unpacking.{IsFail}
use Rattle.pm_pack.specs.Beginnings.{IsBeginning, IsBeginningFail, text_of}
use Rattle.pm_pack.specs.declared.beginning.Beginning.{Beginning}
use Rattle.pm_pack.specs.declared.writing.PackFail.{PackFail}
use Rattle.pm_pack.specs.declared.writing.PackFail.TheVariants as packs
use Rattle.pm_pack.specs.declared.reading.UnpackFail.{UnpackFail}
use Rattle.pm_pack.specs.declared.reading.UnpackFail.TheVariants as unpacks
use Rattle.pack.specs.declared.words.Asked.{Asked}
use Rattle.pack.specs.declared.words.Asked.TheVariants as asked
use Rattle.pm_pack.specs.declared.fault.Fault.{Fault}
use Rattle.pm_pack.specs.declared.fault.Fault.TheVariants as faults
use Rattle.pm_program.specs.declared.making.MakeFail.{MakeFail}
use Rattle.pm_program.specs.declared.making.MakeFail.TheVariants as fails

-- The text is that of what a packed text, or the beginning of one, has of its first n records.
pub record IsFirstText (bytes : List ℕ) (n : ℕ) (text : List ℕ) : Type 0 where
  pub beginning : Beginning
  pub has : IsBeginning bytes n beginning
  pub is : text ≡ text_of beginning

-- The text is what is asked for of these bytes: a packed text of them, or what they are packed of,
-- or the first records of that.
abbrev pub IsMade : Asked → List ℕ → List ℕ → Type 0
IsMade asked.Pack bytes text = IsPacked text bytes
IsMade asked.Unpack bytes text = IsPacked bytes text
IsMade (asked.UnpackFirst n) bytes text = IsFirstText bytes n text

-- The bytes have this fault.
abbrev pub IsFaulty : Asked → List ℕ → Fault → Type 0
IsFaulty asked.Pack bytes (faults.Stream e) = stream_fault bytes ≡ Some e
IsFaulty asked.Pack bytes faults.Trailing = IsFollowed bytes
IsFaulty asked.Pack bytes faults.NotPacked = ⊥
IsFaulty asked.Pack bytes faults.Cut = ⊥
IsFaulty asked.Pack bytes faults.PackedTrailing = ⊥
IsFaulty asked.Unpack bytes (faults.Stream e) = IsFail bytes (unpacks.Stream e)
IsFaulty asked.Unpack bytes faults.Trailing = ⊥
IsFaulty asked.Unpack bytes faults.NotPacked = IsFail bytes unpacks.NotPacked
IsFaulty asked.Unpack bytes faults.Cut = IsFail bytes unpacks.Cut
IsFaulty asked.Unpack bytes faults.PackedTrailing = IsFail bytes unpacks.Trailing
IsFaulty (asked.UnpackFirst n) bytes (faults.Stream e) =
    IsBeginningFail bytes n (unpacks.Stream e)
IsFaulty (asked.UnpackFirst n) bytes faults.Trailing = ⊥
IsFaulty (asked.UnpackFirst n) bytes faults.NotPacked = IsBeginningFail bytes n unpacks.NotPacked
IsFaulty (asked.UnpackFirst n) bytes faults.Cut = IsBeginningFail bytes n unpacks.Cut
IsFaulty (asked.UnpackFirst n) bytes faults.PackedTrailing =
    IsBeginningFail bytes n unpacks.Trailing

-- Nothing is made of the bytes. A beginning's fault tells itself that it comes before its records.
abbrev pub NoneIsMade : Asked → List ℕ → Type 0
NoneIsMade asked.Pack bytes = (text : List ℕ) → ¬ IsMade asked.Pack bytes text
NoneIsMade asked.Unpack bytes = (text : List ℕ) → ¬ IsMade asked.Unpack bytes text
NoneIsMade (asked.UnpackFirst n) bytes = Unit {0}

-- Bytes of which nothing is made.
pub record Refuses (asks : Asked) (bytes : List ℕ) (fault : Fault) : Type 0 where
  pub faulty : IsFaulty asks bytes fault
  pub none : NoneIsMade asks bytes

-- Want of memory is no fault of the input.
abbrev pub fault_fail : Option Fault → MakeFail Fault
fault_fail (Some fault) = fails.Faulty fault
fault_fail None = fails.OutOfMemory

abbrev pub pack_fail : PackFail → MakeFail Fault
pack_fail (packs.Stream e) = fails.Faulty (faults.Stream e)
pack_fail packs.Trailing = fails.Faulty faults.Trailing
pack_fail packs.OutOfMemory = fails.OutOfMemory

abbrev pub unpack_fail : UnpackFail → MakeFail Fault
unpack_fail unpacks.NotPacked = fails.Faulty faults.NotPacked
unpack_fail unpacks.Cut = fails.Faulty faults.Cut
unpack_fail unpacks.Trailing = fails.Faulty faults.PackedTrailing
unpack_fail (unpacks.Stream e) = fails.Faulty (faults.Stream e)
unpack_fail unpacks.OutOfMemory = fails.OutOfMemory
