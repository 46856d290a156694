-- What a status says of how the program ended.
use Rattle.std.proofs.Common.{◌≡◌, ◌⊎◌, inl, inr, ℕ, List, Option, Some, None, Ok, Err}
use Rattle.std.proofs.Common.{IfSome, refl, ◌∙◌, subst, arith}
use Rattle.std.specs.Prelude.{codes}
use Rattle.pm_io.specs.Bytes.{Gains, GainsPart}
use Rattle.obj_fit.specs.declared.fault.Fault.{Fault}
use Rattle.obj_fit.specs.declared.fault.InputFail.TheVariants as input
use Rattle.obj_fit.specs.declared.fault.InputFail.{InputFail}
use Rattle.pm_program.specs.declared.fail.RunFail.{RunFail}
use Rattle.pm_program.specs.declared.fail.RunFail.TheVariants as fails
use Rattle.pm_program.specs.declared.request.Request.{Request}
use Rattle.pm_program.specs.declared.request.Request.TheVariants as requests
use Rattle.pm_program.specs.Fails.{status_of, fail_line, PutCounts, ReadCounts}
use Rattle.prepare.specs.declared.words.Asked.{Asked}
use Rattle.obj_fit.specs.Outcome.{Done, IsPreparedText}
use Rattle.obj_fit.specs.Fails.{HasPreparedFault, PlaceUnreached, StopsPreparing}
use Rattle.prepare.specs.Ending.{Written, IsPreparedInPart, FailsBy, Finished, of_make_fail}
use Rattle.prepare.specs.Ending.{prepare_fault_line}
use Rattle.pm_io.specs.Puts.{Said}

-- A text that was made was written, or a part of it.

pub text_written : (size : Option ℕ) (left old new : Option (List ℕ)) (done : Done) (notes : List ℕ)
    → IfSome left (λ bytes. IsPreparedText size bytes (Ok done) None) → notes ≡ done.notes
    → Gains old new done.text → IfSome left (λ bytes. Written size bytes notes old new)
text_written size None old new done notes outcome is gained = tt
text_written size (Some bytes) old new done notes outcome is gained = record {
  done = done;
  outcome = outcome;
  notes_are = is;
  gained = gained;
}

pub text_cut : (size : Option ℕ) (left old new : Option (List ℕ)) (done : Done)
    → IfSome left (λ bytes. IsPreparedText size bytes (Ok done) None) → GainsPart old new done.text
    → IfSome left (λ bytes. IsPreparedInPart size bytes old new)
text_cut size None old new done outcome part = tt
text_cut size (Some bytes) old new done outcome part = record {
  done = done;
  outcome = outcome;
  part = part;
}

-- The words ask for one thing.
pub one_asked : (asks : Option (Request Asked)) (a b : Asked) → asks ≡ Some (requests.Work a)
    → asks ≡ Some (requests.Work b) → a ≡ b
one_asked asks a b is are = cc

pub said_done : (mine other : Asked) (left old new err_old err_new : Option (List ℕ))
    (before now : ℕ) (notes lent : List ℕ) → mine ≡ other
    → IfSome left (λ bytes. Written mine.size bytes notes old new) → lent ≡ notes
    → Said err_old err_new before now lent
    → IfSome left (λ bytes. Finished other.size bytes old new err_old err_new before now)
said_done mine other None old new err_old err_new before now notes lent same written is said = tt
said_done mine other (Some bytes) old new err_old err_new before now notes lent same written is
    said =
    subst (λ (a : Asked). Finished a.size bytes old new err_old err_new before now) same (record {
      done = written.done;
      outcome = written.outcome;
      gained = written.gained;
      said = subst (λ (l : List ℕ). Said err_old err_new before now l) (is ∙ written.notes_are)
          said;
    })

-- Nothing was made of the input.
module _ (size : Option ℕ) (left now : Option (List ℕ)) (in_old in_new : ℕ) where
  abbrev Stops : InputFail → Type 0
  Stops e = StopsPreparing size e left now in_old in_new

  pub stops_by : (e : InputFail) (old : Option (List ℕ)) → Stops e
      → FailsBy size (of_make_fail e) left now old old
  stops_by (input.Faulty f) old by = (by.0, refl)
  stops_by input.Read old by = (by.0, refl)
  stops_by input.OutOfMemory old by = refl

  pub stop_reads : (e : InputFail) → Stops e → ReadCounts (Err (of_make_fail e)) in_old in_new
  stop_reads (input.Faulty f) by = by.1
  stop_reads input.Read by = by.1
  stop_reads input.OutOfMemory by = by

pub stop_puts : (e : InputFail) (out : ℕ) → PutCounts (Err (of_make_fail e)) out out
stop_puts (input.Faulty f) out = refl
stop_puts input.Read out = refl
stop_puts input.OutOfMemory out = refl

-- How the program ended early, by its status.
module _ (mine other : Asked) (left now old new : Option (List ℕ)) where
  abbrev pub By : RunFail Fault → Type 0
  By fail = FailsBy mine.size fail left now old new

  pub fault_of : (fail : RunFail Fault) (err_old err_new : Option (List ℕ)) (before after : ℕ)
      → mine ≡ other → status_of fail ≡ 1 → By fail
      → Said err_old err_new before after (fail_line (codes "prepare") prepare_fault_line fail)
      → (f : Fault) × IfSome left (λ bytes. HasPreparedFault other.size bytes f)
      × Said err_old err_new before after (prepare_fault_line f)
  unfolding fail_line
  fault_of (fails.Faulty f) err_old err_new before after same is by said = (
    f,
    subst (λ (a : Asked). IfSome left (λ bytes. HasPreparedFault a.size bytes f)) same by.0,
    said,
  )
  fault_of fails.Read err_old err_new before after same is by said = absurd (omega arith)
  fault_of fails.Write err_old err_new before after same is by said = absurd (omega arith)
  fault_of fails.OutOfMemory err_old err_new before after same is by said = absurd (omega arith)

  pub read_of : (fail : RunFail Fault) → mine ≡ other → status_of fail ≡ 3 → By fail
      → PlaceUnreached other.size left now
  read_of (fails.Faulty f) same is by = absurd (omega arith)
  read_of fails.Read same is by =
      subst (λ (a : Asked). PlaceUnreached a.size left now) same by.0
  read_of fails.Write same is by = absurd (omega arith)
  read_of fails.OutOfMemory same is by = absurd (omega arith)

  pub cut_of : (fail : RunFail Fault) → mine ≡ other → status_of fail ≡ 4 → By fail
      → IfSome left (λ bytes. IsPreparedInPart other.size bytes old new)
  cut_of (fails.Faulty f) same is by = absurd (omega arith)
  cut_of fails.Read same is by = absurd (omega arith)
  cut_of fails.Write same is by =
      subst (λ (a : Asked). IfSome left (λ bytes. IsPreparedInPart a.size bytes old new)) same by
  cut_of fails.OutOfMemory same is by = absurd (omega arith)

  pub nothing_of : (fail : RunFail Fault) (status : ℕ) → status ≡ status_of fail
      → (status ≡ 1) ⊎ ((status ≡ 3) ⊎ (status ≡ 5)) → By fail → new ≡ old
  nothing_of (fails.Faulty f) status given is by = by.1
  nothing_of fails.Read status given is by = by.1
  nothing_of fails.Write status given (inl is) by = absurd (omega arith)
  nothing_of fails.Write status given (inr (inl is)) by = absurd (omega arith)
  nothing_of fails.Write status given (inr (inr is)) by = absurd (omega arith)
  nothing_of fails.OutOfMemory status given is by = by
