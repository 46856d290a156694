-- What the words ask for, and that a packed text has no fault and is of one text.
use Rattle.std.proofs.Common.{◌≡◌, ◌≢◌, ℕ, List, Option, Some}
use Rattle.pm_program.specs.declared.request.Request.{Request}
use Rattle.pm_program.specs.declared.request.Request.TheVariants as requests
use Rattle.pm_pack.specs.declared.fault.Fault.{Fault}
use Rattle.pack.specs.declared.words.Asked.{Asked}
use Rattle.pack.specs.declared.words.Asked.TheVariants as asked
use Rattle.pm_pack.specs.Packed.{IsPacked}
use Rattle.pm_pack.specs.Unpacking.{IsFail}
use Rattle.pm_pack.specs.Beginnings.{IsBeginningFail}
use Rattle.pm_pack.specs.declared.reading.UnpackFail.{UnpackFail}
use Rattle.pm_pack.specs.declared.reading.UnpackFail.TheVariants as unpacks
use Rattle.pm_program.specs.Making.{FailsBy}
use Rattle.pack.specs.Making.{IsMade, Refuses, unpack_fail}

-- The words ask for one thing.
pub one_asked : (asks : Option (Request Asked)) (a b : Asked) → asks ≡ Some (requests.Work a)
    → asks ≡ Some (requests.Work b) → a ≡ b
one_asked asks a b is are = cc

pub nothing_unpacked : (bytes : List ℕ) (f : Fault) → Refuses asked.Unpack bytes f
    → (text : List ℕ) → IsMade asked.Unpack bytes text → ⊥
nothing_unpacked bytes f refuses text is = refuses.none text is

-- Why a packed text isn't unpacked, or no first records of it are.
pub unpack_refuses : (bytes : List ℕ) (e : UnpackFail) → IsFail bytes e
    → (e ≢ unpacks.OutOfMemory → (text : List ℕ) → ¬ IsPacked bytes text)
    → FailsBy (Refuses asked.Unpack) bytes (unpack_fail e)
unpack_refuses bytes unpacks.NotPacked why none = record { faulty = why; none = none (λ e. cc) }
unpack_refuses bytes unpacks.Cut why none = record { faulty = why; none = none (λ e. cc) }
unpack_refuses bytes unpacks.Trailing why none = record { faulty = why; none = none (λ e. cc) }
unpack_refuses bytes (unpacks.Stream f) why none =
    record { faulty = why; none = none (λ e. cc) }
unpack_refuses bytes unpacks.OutOfMemory why none = tt

pub first_refuses : (bytes : List ℕ) (n : ℕ) (e : UnpackFail) → IsBeginningFail bytes n e
    → FailsBy (Refuses (asked.UnpackFirst n)) bytes (unpack_fail e)
first_refuses bytes n unpacks.NotPacked why = record { faulty = why; none = tt }
first_refuses bytes n unpacks.Cut why = record { faulty = why; none = tt }
first_refuses bytes n unpacks.Trailing why = record { faulty = why; none = tt }
first_refuses bytes n (unpacks.Stream f) why = record { faulty = why; none = tt }
first_refuses bytes n unpacks.OutOfMemory why = tt
