-- What a failure says of the bytes, and of the source.
use Rattle.std.specs.Prelude.{ℕ, ◌≡◌, ◌<◌, ◌≤◌, List, length, Option, IfSome, Result, Ok}
use Rattle.std.specs.Prelude.{Err}
use Rattle.obj_lines.specs.declared.limits.TheConstants.{MOST_TEXT_BYTES}
use Rattle.pm_io.specs.Bytes.{Loses}
use Rattle.obj_scan.specs.declared.fault.ScanFail.{ScanFail}
use Rattle.obj_scan.specs.declared.fault.ScanFail.TheVariants as text_fails
use Rattle.obj_scan.specs.Judged.{Scanned}
use Rattle.obj_scan.specs.Refusals.{Refused as TextRefused, IsRefusal}
use Rattle.mesh_scan.specs.declared.fault.MeshFail.{MeshFail}
use Rattle.mesh_scan.specs.declared.fault.MeshFail.TheVariants as fails
use Rattle.mesh_scan.specs.declared.fault.MeshFault.{MeshFault}
use Rattle.mesh_scan.specs.declared.fault.MeshFault.TheVariants as faults
use Rattle.mesh_scan.specs.Meaning.{Refused}

-- The bytes are refused for this fault.
abbrev pub IsRefused : MeshFault → Result Scanned Refused → Type 0
IsRefused fault (Ok s) = ⊥
IsRefused fault (Err r) = r.fault ≡ fault

-- So many bytes don't reach the place of the fault, if there is one. The end of input is not
-- reached by bytes.
abbrev pub IsNotReached : ℕ → Result Scanned Refused → Type 0
IsNotReached taken (Ok s) = Unit {0}
IsNotReached taken (Err r) = IfSome r.place (λ place. taken < place)

-- The bytes that were taken don't reach the place of the fault that these bytes have by this
-- meaning, where the source tells its bytes.
pub record FailsBefore (meaning : List ℕ → Result Scanned Refused)
    (whole left : Option (List ℕ)) : Type 0 where
  pub taken : List ℕ
  pub took : Loses whole left taken
  pub before : IfSome whole (λ bytes. IsNotReached (length taken) (meaning bytes))

-- What a failure says of the bytes that the source had, by their meaning, and of those that are
-- left. Want of memory says nothing.
abbrev pub Explains : (List ℕ → Result Scanned Refused) → MeshFail → Option (List ℕ)
    → Option (List ℕ) → Type 0
Explains meaning (fails.Fault fault) whole left =
    IfSome whole (λ bytes. IsRefused fault (meaning bytes))
Explains meaning fails.Read whole left = FailsBefore meaning whole left
Explains meaning fails.OutOfMemory whole left = Unit {0}

-- What an answer says of the source alone: it failed exactly where the answer is Read.
abbrev pub of_source : {T : Type 0} → Result T MeshFail → Result (Unit {0}) (Unit {0})
of_source (Ok x) = Ok tt
of_source (Err (fails.Fault fault)) = Ok tt
of_source (Err fails.Read) = Err tt
of_source (Err fails.OutOfMemory) = Ok tt

-- Bytes in memory give nothing, since they have this fault or memory was wanting.
abbrev pub Tells : MeshFail → Result Scanned Refused → Type 0
Tells (fails.Fault fault) meaning = IsRefused fault meaning
Tells fails.Read meaning = ⊥
Tells fails.OutOfMemory meaning = Unit {0}

-- Where a read failed, fewer bytes than so many are held, and all that were taken are.
abbrev pub Holds : MeshFail → ℕ → List ℕ → Option (List ℕ) → Option (List ℕ) → Type 0
Holds (fails.Fault fault) most bytes whole left = ⊥
Holds fails.Read most bytes whole left = (length bytes < most) × Loses whole left bytes
Holds fails.OutOfMemory most bytes whole left = Unit {0}

-- A file isn't read whole: it has too many bytes, or a read failed before these had come.
abbrev pub StopsRest : MeshFail → Option (List ℕ) → Option (List ℕ) → Type 0
StopsRest (fails.Fault fault) whole left =
    (fault ≡ faults.TooLong) × IfSome whole (λ bytes. MOST_TEXT_BYTES < length bytes)
StopsRest fails.Read whole left =
    (taken : List ℕ) × (length taken ≤ MOST_TEXT_BYTES) × Loses whole left taken
StopsRest fails.OutOfMemory whole left = Unit {0}

-- An OBJ text in memory gives nothing, since a line has this fault or memory was wanting.
abbrev pub TellsText : ScanFail → Result Scanned TextRefused → Type 0
TellsText (text_fails.Fault fault line) meaning = IsRefusal fault line meaning
TellsText text_fails.Read meaning = ⊥
TellsText text_fails.OutOfMemory meaning = Unit {0}

-- What an answer of an OBJ text is as one of any file.
abbrev pub of_text : ScanFail → MeshFail
of_text (text_fails.Fault fault line) = fails.Fault (faults.Obj fault line)
of_text text_fails.Read = fails.Read
of_text text_fails.OutOfMemory = fails.OutOfMemory
