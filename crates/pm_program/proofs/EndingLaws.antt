-- What became of a program's devices, by how it ended.
use Rattle.std.proofs.Common.{◌≡◌, ◌≢◌, ◌⊎◌, inl, inr, ℕ, List, ◌++◌, Option}
use Rattle.std.proofs.Common.{Some, Ok, Err, sym, ◌∙◌, arith, rules}
use Rattle.std.specs.Prelude.{codes}
use Rattle.std.specs.IoError.{error_kind}
use Rattle.std.specs.declared.alloc.Global.{Global}
use Rattle.std.specs.declared.vec.IntoIter.{IntoIter}
use Rattle.std.specs.Prelude.{String}
use Rattle.std.specs.declared.io.Error.{Error}
use Rattle.std.specs.declared.io.ErrorKind.{ErrorKind}
use Rattle.std.specs.declared.io.ErrorKind.TheVariants as kinds
use Rattle.pm_io.specs.declared.device.Source as source
use Rattle.pm_io.specs.declared.device.Sink as sink
use Rattle.pm_io.specs.Causes.{Rose}
use Rattle.pm_io.specs.Devices.{Unput, Tells}
use Rattle.pm_io.specs.Endings.{SaysEnding, NoneFailed}
use Rattle.pm_program.specs.declared.fail.RunFail.{RunFail}
use Rattle.pm_program.specs.declared.fail.RunFail.TheVariants as fails
use Rattle.pm_program.specs.Fails.{status_of, fail_line, PutCounts, ReadCounts}
use Rattle.pm_program.specs.Endings.{Arguments, Endings, Outcomes}

-- What ends a program early has neither the status of what was done nor that of other words.
ended : {F : Type 0} (fail : RunFail F) → (status_of fail ≢ 0) × (status_of fail ≢ 2)
ended (fails.Faulty f) = (λ is. absurd (omega arith), λ is. absurd (omega arith))
ended fails.Read = (λ is. absurd (omega arith), λ is. absurd (omega arith))
ended fails.Write = (λ is. absurd (omega arith), λ is. absurd (omega arith))
ended fails.OutOfMemory = (λ is. absurd (omega arith), λ is. absurd (omega arith))

-- The program ended early, once its words were there and understood.
module _ {S K E F : Type 0} (s : source.Ghosts S) (k : sink.Ghosts K) (e : sink.Ghosts E)
    (args : Arguments) (input input_now : S) (out out_now : K) (err err_now : E) where
  abbrev Reads : RunFail F → Type 0
  Reads fail = ReadCounts (Err fail) (s.faults input) (s.faults input_now)

  abbrev Puts : RunFail F → Type 0
  Puts fail = PutCounts (Err fail) (k.faults out) (k.faults out_now)

  ends_by : (it : IntoIter (String Global) Global) → args ≡ Ok it → (fail : RunFail F)
      → Reads fail → Puts fail
      → Endings s k e args (status_of fail) input input_now out out_now err err_now
  ends_by it is (fails.Faulty f) reads puts = rw is (search rules)
  ends_by it is fails.Read reads puts = rw is (search rules)
  ends_by it is fails.Write reads puts = rw is (search rules)
  ends_by it is fails.OutOfMemory reads puts = rw is (search rules)

  pub ends_early : (it : IntoIter (String Global) Global) → args ≡ Ok it → (fail : RunFail F)
      (status : ℕ) → status ≡ status_of fail → Reads fail → Puts fail
      → Endings s k e args status input input_now out out_now err err_now
  ends_early it is fail status given reads puts = rw given (ends_by it is fail reads puts)

-- No device failed, so the input has a fault, or memory was wanting.
pub completes : {S K F : Type 0} (s : source.Ghosts S) (k : sink.Ghosts K) (input input_now : S)
    (out out_now : K) (fail : RunFail F) (status : ℕ) → status ≡ status_of fail
    → ReadCounts (Err fail) (s.faults input) (s.faults input_now)
    → PutCounts (Err fail) (k.faults out) (k.faults out_now)
    → NoneFailed s k input input_now out out_now → (status ≡ 1) ⊎ (status ≡ 5)
completes s k input input_now out out_now (fails.Faulty f) status given reads puts none = inl given
completes s k input input_now out out_now fails.Read status given reads puts none =
    let rose : Rose (s.faults input) (s.faults input_now) = reads in
    absurd (omega (arith, rose, none.input_same, none.input_few))
completes s k input input_now out out_now fails.Write status given reads puts none =
    let rose : Rose (k.faults out) (k.faults out_now) = puts in
    absurd (omega (arith, rose, none.out_same, none.out_few))
completes s k input input_now out out_now fails.OutOfMemory status given reads puts none =
    inr given

-- The line that was said, by why it ended early.
module _ {E F : Type 0} (e : sink.Ghosts E) (program : List ℕ) (fault_line : F → List ℕ)
    (err err_now : E) where
  abbrev Told : RunFail F → Type 0
  Told fail = Tells e err err_now (fail_line program fault_line fail)

  says_by : (fail : RunFail F) → Told fail
      → SaysEnding e program (status_of fail) err err_now
  unfolding fail_line
  says_by (fails.Faulty f) told = search rules
  says_by fails.Read told = search rules
  says_by fails.Write told = search rules
  says_by fails.OutOfMemory told = search rules

  pub says_early : (fail : RunFail F) (status : ℕ) → status ≡ status_of fail → Told fail
      → SaysEnding e program status err err_now
  says_early fail status given told = rw given (says_by fail told)

  pub says_memory : (fail : RunFail F) (status : ℕ) → status ≡ status_of fail → Told fail
      → status ≡ 5 → Tells e err err_now (program ++ codes ": out of memory\n")
  unfolding fail_line
  says_memory (fails.Faulty f) status given told is = absurd (omega (arith, given, is))
  says_memory fails.Read status given told is = absurd (omega (arith, given, is))
  says_memory fails.Write status given told is = absurd (omega (arith, given, is))
  says_memory fails.OutOfMemory status given told is = told

-- What its words asked for, and what it put and said, where it ended early.
module _ {S K E F A : Type 0} (s : source.Ghosts S) (k : sink.Ghosts K) (e : sink.Ghosts E)
    (program : List ℕ) (fault_line : F → List ℕ) (args : Arguments) (input input_now : S)
    (out out_now : K) (err err_now : E) where
  pub outcomes_early : (it : IntoIter (String Global) Global) → args ≡ Ok it
      → (asked : Option A) (a : A) → asked ≡ Some a → (fail : RunFail F) (status : ℕ)
      → status ≡ status_of fail → ReadCounts (Err fail) (s.faults input) (s.faults input_now)
      → PutCounts (Err fail) (k.faults out) (k.faults out_now)
      → Tells e err err_now (fail_line program fault_line fail)
      → ((status ≡ 1) ⊎ ((status ≡ 3) ⊎ (status ≡ 5)) → k.got out_now ≡ k.got out)
      → Outcomes s k e program args asked status input input_now out out_now err err_now
  outcomes_early it is asked a asks fail status given reads puts told nothing = record {
    refused = rw (is, asks) (search rules);
    known = λ two. absurd ((ended fail).1 (sym given ∙ two));
    nothing_put = nothing;
    said_memory = rw is (says_memory e program fault_line err err_now fail status given told);
    complete = λ b asks none. inr (completes s k input input_now out out_now fail
        status given reads puts none);
  }

-- The words couldn't be gathered.
module _ {S K E : Type 0} (s : source.Ghosts S) (k : sink.Ghosts K) (e : sink.Ghosts E)
    (args : Arguments) (x : Error) (is : args ≡ Err x) (status : ℕ)
    (input : S) (out : K) (err err_now : E) (either : (status ≡ 2) ⊎ (status ≡ 5)) where
  ungathered : (error_kind x ≡ kinds.OutOfMemory → status ≡ 5)
      → (error_kind x ≢ kinds.OutOfMemory → status ≡ 2) → (status ≡ 5 → Unput e err err_now)
      → Endings s k e args status input input out out err err_now
  ungathered memory other unsaid = rw is (elim either [
    | inl two ↦ rw two (search rules)
    | inr five ↦ rw five (search rules)
  ])

  pub ends_ungathered : (kind : ErrorKind) → kind ≡ error_kind x
      → (kind ≡ kinds.OutOfMemory → status ≡ 5) → (kind ≢ kinds.OutOfMemory → status ≡ 2)
      → (status ≡ 5 → Unput e err err_now)
      → Endings s k e args status input input out out err err_now
  ends_ungathered kind same memory other unsaid =
      ungathered (λ out_of. memory (same ∙ out_of)) (λ no. other (λ k. no (sym same ∙ k))) unsaid
