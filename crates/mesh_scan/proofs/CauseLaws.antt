-- What an answer says of the source alone.
use Rattle.std.proofs.Common.{ℕ, Result, Ok, Err, IfErr, refl, arith}
use Rattle.pm_io.specs.Causes.{HasCause}
use Rattle.obj_scan.specs.declared.fault.ScanFail.{ScanFail}
use Rattle.obj_scan.specs.declared.fault.ScanFail.TheVariants as text_fails
use Rattle.obj_scan.specs.Judged.{Scanned}
use Rattle.obj_scan.specs.Refusals.{Refused as TextRefused, of_source as of_text_source}
use Rattle.mesh_scan.specs.declared.fault.MeshFail.{MeshFail}
use Rattle.mesh_scan.specs.declared.fault.MeshFail.TheVariants as fails
use Rattle.mesh_scan.specs.Meaning.{Refused}
use Rattle.mesh_scan.specs.Fails.{Tells, TellsText, of_source, of_text}

abbrev NoneFailed : ℕ → ℕ → Type 0
NoneFailed before now = HasCause {T = Unit {0}} {E = Unit {0}} before now (Ok tt)

-- Bytes in memory fail in no read.
pub told_cause : {T : Type 0} (before now : ℕ) (r : Result T MeshFail)
    (m : Result Scanned Refused) → IfErr r (λ e. Tells e m) → NoneFailed before now
    → HasCause before now (of_source r)
told_cause before now (Ok x) m told cause = cause
told_cause before now (Err (fails.Fault fault)) m told cause = cause
told_cause before now (Err fails.Read) m told cause = absurd told
told_cause before now (Err fails.OutOfMemory) m told cause = cause

pub text_cause : {T : Type 0} (n : ℕ) (r : Result T ScanFail) (m : Result Scanned TextRefused)
    → IfErr r (λ e. TellsText e m) → HasCause n n (of_text_source r)
text_cause n (Ok x) m told =
    record { later = omega arith; most = λ few. few; same = refl; failed = tt }
text_cause n (Err (text_fails.Fault fault line)) m told =
    record { later = omega arith; most = λ few. few; same = refl; failed = tt }
text_cause n (Err text_fails.Read) m told = absurd told
text_cause n (Err text_fails.OutOfMemory) m told =
    record { later = omega arith; most = λ few. few; same = refl; failed = tt }

-- The failure of an OBJ text is as one of any file.
pub cause_of_text : (T U : Type 0) (before now : ℕ) (e : ScanFail)
    → HasCause before now (of_text_source {T = T} (Err e))
    → HasCause before now (of_source {T = U} (Err (of_text e)))
cause_of_text T U before now (text_fails.Fault fault line) cause = cause
cause_of_text T U before now text_fails.Read cause = cause
cause_of_text T U before now text_fails.OutOfMemory cause = cause

-- What failed is the same, whatever would have been answered.
pub same_cause : (T U : Type 0) (before now : ℕ) (e : MeshFail)
    → HasCause before now (of_source {T = T} (Err e))
    → HasCause before now (of_source {T = U} (Err e))
same_cause T U before now (fails.Fault fault) cause = cause
same_cause T U before now fails.Read cause = cause
same_cause T U before now fails.OutOfMemory cause = cause
