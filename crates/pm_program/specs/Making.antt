-- How a program ends that makes a text of the first bytes of its input: `makes bytes text` says
-- that the text is made of these bytes, and `refuses bytes fault` that nothing is, since they have
-- this fault.
use Rattle.std.specs.Prelude.{◌≡◌, ℕ, List, take, Option, IfSome, Result, Ok, Err}
use Rattle.pm_io.specs.Bytes.{Gains, GainsPart}
use Rattle.pm_program.specs.declared.fail.RunFail.{RunFail}
use Rattle.pm_program.specs.declared.fail.RunFail.TheVariants as fails
use Rattle.pm_program.specs.declared.making.TheConstants.{MOST}
use Rattle.pm_program.specs.declared.making.MakeFail.{MakeFail}
use Rattle.pm_program.specs.declared.making.MakeFail.TheVariants as making
use Rattle.pm_program.specs.Input.{ReadsTo, StopsShort}

-- The bytes that are looked at, the first 2^30.
unfoldable pub front : List ℕ → List ℕ
front bytes = take MOST bytes

-- Why nothing is made.
abbrev pub FailsBy : {F : Type 0} → (List ℕ → F → Type 0) → List ℕ → MakeFail F → Type 0
FailsBy refuses bytes (making.Faulty fault) = refuses bytes fault
FailsBy refuses bytes making.OutOfMemory = Unit {0}

-- What the program ends by then.
abbrev pub of_make_fail : {F : Type 0} → MakeFail F → RunFail F
of_make_fail (making.Faulty fault) = fails.Faulty fault
of_make_fail making.OutOfMemory = fails.OutOfMemory

-- The sink gained what is made of the bytes.
pub record Replied (makes : List ℕ → List ℕ → Type 0) (bytes : List ℕ)
    (old new : Option (List ℕ)) : Type 0 where
  pub text : List ℕ
  pub made : makes bytes text
  pub gained : Gains old new text

-- The sink gained a proper prefix of it.
pub record CutShort (makes : List ℕ → List ℕ → Type 0) (bytes : List ℕ)
    (old new : Option (List ℕ)) : Type 0 where
  pub text : List ℕ
  pub made : makes bytes text
  pub part : GainsPart old new text

-- How the work on bytes ends: `old` and `new` are what the sink had taken.
abbrev pub EndsOn : {F : Type 0} → (List ℕ → List ℕ → Type 0) → (List ℕ → F → Type 0)
    → Result (Unit {0}) (RunFail F) → List ℕ → Option (List ℕ) → Option (List ℕ) → Type 0
EndsOn makes refuses (Ok done) bytes old new = Replied makes bytes old new
EndsOn makes refuses (Err (fails.Faulty fault)) bytes old new = refuses bytes fault × (new ≡ old)
EndsOn makes refuses (Err fails.Read) bytes old new = ⊥
EndsOn makes refuses (Err fails.Write) bytes old new = CutShort makes bytes old new
EndsOn makes refuses (Err fails.OutOfMemory) bytes old new = new ≡ old

-- How the program ends: `left` is what the source had left at first and `now` what it has left
-- then.
abbrev pub Ends : {F : Type 0} → (List ℕ → List ℕ → Type 0) → (List ℕ → F → Type 0)
    → Result (Unit {0}) (RunFail F) → Option (List ℕ) → Option (List ℕ) → Option (List ℕ)
    → Option (List ℕ) → Type 0
Ends makes refuses (Ok done) left now old new =
    IfSome left (λ bytes. Replied makes (front bytes) old new) × ReadsTo MOST left now
Ends makes refuses (Err (fails.Faulty fault)) left now old new =
    IfSome left (λ bytes. refuses (front bytes) fault) × (new ≡ old)
Ends makes refuses (Err fails.Read) left now old new = StopsShort MOST left now × (new ≡ old)
Ends makes refuses (Err fails.Write) left now old new =
    IfSome left (λ bytes. CutShort makes (front bytes) old new)
Ends makes refuses (Err fails.OutOfMemory) left now old new = new ≡ old
