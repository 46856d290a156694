-- What a failure says of the text, and of the source.
use Rattle.std.specs.Prelude.{ℕ, ◌<◌, ◌≡◌, List, length, Option, IfSome, Result, Ok, Err}
use Rattle.pm_io.specs.Bytes.{Loses}
use Rattle.obj_lines.specs.declared.fault.LineFault.{LineFault}
use Rattle.obj_lines.specs.declared.fault.TextFail.{TextFail}
use Rattle.obj_lines.specs.declared.fault.TextFail.TheVariants as fails
use Rattle.obj_lines.specs.Rules.{Rules, Refused, text_read}

-- The failure is the fault that was found. A line fails in no other way, but for want of memory.
abbrev pub IsLineFault : {T F : Type 0} → TextFail F → Result T (LineFault F) → Type 0
IsLineFault (fails.Fault e) found = found ≡ Err e
IsLineFault fails.Read found = ⊥
IsLineFault fails.OutOfMemory found = Unit {0}

-- The first line with a fault is this one, and it has this fault first.
abbrev pub IsRefusal : {T F : Type 0} → F → ℕ → Result T (Refused F) → Type 0
IsRefusal fault line (Ok h) = ⊥
IsRefusal fault line (Err r) = (r.fault ≡ fault) × (r.line ≡ line)

-- So many bytes don't reach the place of the first fault, if there is one. The end of input is not
-- reached by bytes.
abbrev pub FaultNotReached : {T F : Type 0} → ℕ → Result T (Refused F) → Type 0
FaultNotReached taken (Ok h) = Unit {0}
FaultNotReached taken (Err r) = IfSome r.place (λ place. taken < place)

-- The bytes that were taken don't reach the place of the first fault, where the source tells its
-- bytes.
pub record FailsBefore {H F : Type 0} (r : Rules H F) (h : H) (whole left : Option (List ℕ)) :
    Type 0 where
  pub taken : List ℕ
  pub took : Loses whole left taken
  pub before : IfSome whole (λ bytes. FaultNotReached (length taken) (text_read r h bytes))

-- The failure is the first fault. Text that was read whole fails in no other way, but for want of
-- memory.
abbrev pub IsRefused : {T F : Type 0} → TextFail F → Result T (Refused F) → Type 0
IsRefused (fails.Fault e) meaning = IsRefusal e.fault e.line meaning
IsRefused fails.Read meaning = ⊥
IsRefused fails.OutOfMemory meaning = Unit {0}

-- What a failure says of the bytes that the source had, and of those that are left. Want of memory
-- says nothing.
abbrev pub Explains : {H F : Type 0} → Rules H F → H → TextFail F → Option (List ℕ)
    → Option (List ℕ) → Type 0
Explains r h (fails.Fault e) whole left =
    IfSome whole (λ bytes. IsRefusal e.fault e.line (text_read r h bytes))
Explains r h fails.Read whole left = FailsBefore r h whole left
Explains r h fails.OutOfMemory whole left = Unit {0}

-- What an answer says of the source alone: it failed exactly where the answer is Read.
abbrev pub of_source : {T F : Type 0} → Result T (TextFail F) → Result (Unit {0}) (Unit {0})
of_source (Ok x) = Ok tt
of_source (Err (fails.Fault e)) = Ok tt
of_source (Err fails.Read) = Err tt
of_source (Err fails.OutOfMemory) = Ok tt
