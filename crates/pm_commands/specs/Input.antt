-- How reading the input stops early.
use Rattle.std.specs.Prelude.{◌≡◌, ℕ, ◌<◌, List, length, Option, IfSome, Result, Err}
use Rattle.pm_io.specs.Bytes.{Loses}
use Rattle.pm_io.specs.Causes.{Rose}
use Rattle.pm_commands.specs.declared.fault.Fault.{Fault}
use Rattle.pm_commands.specs.declared.fault.InputFail.{InputFail}
use Rattle.pm_commands.specs.declared.fault.InputFail.TheVariants as input
use Rattle.pm_commands.specs.declared.fault.CommandFail.{CommandFail}
use Rattle.pm_commands.specs.declared.fault.CommandFail.TheVariants as fails

-- A command ends as its input does.
abbrev pub fail_of : InputFail → CommandFail
fail_of (input.Faulty f) = fails.Faulty f
fail_of input.Read = fails.Read
fail_of input.OutOfMemory = fails.OutOfMemory

-- The bytes that were taken don't reach the place that decides what the input gives. `IsRead` says
-- what bytes give, and how many of them decide it.
pub record Unreached {X : Type 0} (IsRead : List ℕ → Result X Fault → Option ℕ
    → Type 0) (left now : Option (List ℕ)) : Type 0 where
  pub taken : List ℕ
  pub took : Loses left now taken
  pub before : IfSome left (λ bytes. (r : Result X Fault) (place : Option ℕ) → IsRead bytes r place
      → IfSome place (λ n. length taken < n))

-- The bytes have this fault.
pub record IsFaulty {X : Type 0} (IsRead : List ℕ → Result X Fault → Option ℕ
    → Type 0) (bytes : List ℕ) (f : Fault) : Type 0 where
  pub place : Option ℕ
  pub is : IsRead bytes (Err f) place

-- The bytes that were left are refused for the fault; or a read failed before the place that
-- decides what they give; or memory was wanted. Only a read that failed is counted.
abbrev pub Stops : {X : Type 0} → (List ℕ → Result X Fault → Option ℕ → Type 0) → InputFail
    → Option (List ℕ) → Option (List ℕ) → ℕ → ℕ → Type 0
Stops IsRead (input.Faulty f) left now in_old in_new =
    IfSome left (λ bytes. IsFaulty IsRead bytes f) × (in_new ≡ in_old)
Stops IsRead input.Read left now in_old in_new = Unreached IsRead left now × Rose in_old in_new
Stops IsRead input.OutOfMemory left now in_old in_new = in_new ≡ in_old
