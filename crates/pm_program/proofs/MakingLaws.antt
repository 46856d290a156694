-- What a status says of how a program ended that makes a text of its input.
use Rattle.std.proofs.Common.{◌≡◌, ◌⊎◌, inl, inr, ℕ, List, Option, Some, None}
use Rattle.std.proofs.Common.{Result, Ok, Err, IfSome, subst, arith}
use Rattle.pm_io.specs.Bytes.{Gains}
use Rattle.pm_io.specs.Devices.{Tells}
use Rattle.pm_io.specs.declared.device.Sink as sink
use Rattle.pm_program.specs.declared.fail.RunFail.{RunFail}
use Rattle.pm_program.specs.declared.fail.RunFail.TheVariants as fails
use Rattle.pm_program.specs.declared.making.TheConstants.{MOST}
use Rattle.pm_program.specs.Fails.{status_of, fail_line}
use Rattle.pm_program.specs.Input.{HoldsFront, StopsShort}
use Rattle.pm_program.specs.Making.{front, Replied, CutShort, EndsOn, Ends}
use Rattle.pm_program.proofs.InputLaws.{on_front}

-- What was done with bytes was done with the first ones that were left.
pub ends_of : {F : Type 0} (makes : List ℕ → List ℕ → Type 0) (refuses : List ℕ → F → Type 0)
    (r : Result (Unit {0}) (RunFail F)) (left now old new : Option (List ℕ)) (bytes : List ℕ)
    → HoldsFront MOST left now bytes → EndsOn makes refuses r bytes old new
    → Ends makes refuses r left now old new
unfolding front
ends_of makes refuses (Ok done) left now old new bytes held ends =
    (on_front (λ b. Replied makes b old new) MOST left now bytes held ends, held.reads)
ends_of makes refuses (Err (fails.Faulty fault)) left now old new bytes held ends =
    (on_front (λ b. refuses b fault) MOST left now bytes held ends.0, ends.1)
ends_of makes refuses (Err fails.Read) left now old new bytes held ends = absurd ends
ends_of makes refuses (Err fails.Write) left now old new bytes held ends =
    on_front (λ b. CutShort makes b old new) MOST left now bytes held ends
ends_of makes refuses (Err fails.OutOfMemory) left now old new bytes held ends = ends

-- How the program ended early, by its status.
module _ {F : Type 0} (makes : List ℕ → List ℕ → Type 0) (refuses : List ℕ → F → Type 0)
    (left now old new : Option (List ℕ)) where
  abbrev pub By : RunFail F → Type 0
  By fail = Ends makes refuses (Err fail) left now old new

  pub read_of : (fail : RunFail F) → status_of fail ≡ 3 → By fail → StopsShort MOST left now
  read_of (fails.Faulty f) is by = absurd (omega arith)
  read_of fails.Read is by = by.0
  read_of fails.Write is by = absurd (omega arith)
  read_of fails.OutOfMemory is by = absurd (omega arith)

  pub cut_of : (fail : RunFail F) → status_of fail ≡ 4 → By fail
      → IfSome left (λ bytes. CutShort makes (front bytes) old new)
  cut_of (fails.Faulty f) is by = absurd (omega arith)
  cut_of fails.Read is by = absurd (omega arith)
  cut_of fails.Write is by = by
  cut_of fails.OutOfMemory is by = absurd (omega arith)

  pub nothing_of : (fail : RunFail F) (status : ℕ) → status ≡ status_of fail
      → (status ≡ 1) ⊎ ((status ≡ 3) ⊎ (status ≡ 5)) → By fail → new ≡ old
  nothing_of (fails.Faulty f) status given is by = by.1
  nothing_of fails.Read status given is by = by.1
  nothing_of fails.Write status given (inl is) by = absurd (omega arith)
  nothing_of fails.Write status given (inr (inl is)) by = absurd (omega arith)
  nothing_of fails.Write status given (inr (inr is)) by = absurd (omega arith)
  nothing_of fails.OutOfMemory status given is by = by

  -- The fault that was said.
  pub told_fault : {E : Type 0} (e : sink.Ghosts E) (program : List ℕ) (fault_line : F → List ℕ)
      (fail : RunFail F) (err err_now : E) → status_of fail ≡ 1 → By fail
      → Tells e err err_now (fail_line program fault_line fail)
      → (f : F) × IfSome left (λ bytes. refuses (front bytes) f)
      × Tells e err err_now (fault_line f)
  unfolding fail_line
  told_fault e program fault_line (fails.Faulty f) err err_now is by told = (f, by.0, told)
  told_fault e program fault_line fails.Read err err_now is by told = absurd (omega arith)
  told_fault e program fault_line fails.Write err err_now is by told = absurd (omega arith)
  told_fault e program fault_line fails.OutOfMemory err err_now is by told = absurd (omega arith)

-- Whatever is made of bytes was put, where one text is made of them,
pub puts_made : (makes : List ℕ → List ℕ → Type 0)
    → ((bytes a b : List ℕ) → makes bytes a → makes bytes b → a ≡ b)
    → (status : ℕ) (left old new : Option (List ℕ)) → status ≡ 0
    → IfSome left (λ bytes. Replied makes (front bytes) old new)
    → IfSome left (λ bytes. (text : List ℕ) → makes (front bytes) text
    → ((status ≡ 0) × Gains old new text) ⊎ (status ≡ 5))
puts_made makes one status None old new given done = tt
puts_made makes one status (Some bytes) old new given done = λ text is.
    inl (
      given,
      subst (λ (t : List ℕ). Gains old new t) (one (front bytes) done.text text done.made is)
          done.gained,
    )

-- and where none is made of those with a fault.
pub puts_none : {F : Type 0} (makes : List ℕ → List ℕ → Type 0) (refuses : List ℕ → F → Type 0)
    → ((bytes : List ℕ) (f : F) → refuses bytes f → (text : List ℕ) → makes bytes text → ⊥)
    → (fail : RunFail F) (status : ℕ) (left now old new : Option (List ℕ))
    → status ≡ status_of fail → Ends makes refuses (Err fail) left now old new
    → (status ≡ 1) ⊎ (status ≡ 5)
    → IfSome left (λ bytes. (text : List ℕ) → makes (front bytes) text
    → ((status ≡ 0) × Gains old new text) ⊎ (status ≡ 5))
puts_none makes refuses none fail status None now old new given ends either = tt
puts_none makes refuses none (fails.Faulty f) status (Some bytes) now old new given ends either =
    λ text is. absurd (none (front bytes) f ends.0 text is)
puts_none makes refuses none fails.Read status (Some bytes) now old new given ends (inl is) =
    absurd (omega (arith, given, is))
puts_none makes refuses none fails.Read status (Some bytes) now old new given ends (inr is) =
    λ text made. inr is
puts_none makes refuses none fails.Write status (Some bytes) now old new given ends (inl is) =
    absurd (omega (arith, given, is))
puts_none makes refuses none fails.Write status (Some bytes) now old new given ends (inr is) =
    λ text made. inr is
puts_none makes refuses none fails.OutOfMemory status (Some bytes) now old new given ends either =
    λ text made. inr given
