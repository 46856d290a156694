-- How programs end, by their arguments, the status, and their devices as they were and as they are.
-- Status 0: all was done. 1: the input has a fault. 2: the words aren't understood. 3: a read
-- failed. 4: a write failed. 5: memory was wanting.
use Rattle.std.specs.Prelude.{◌≡◌, ◌≢◌, ◌⊎◌, ℕ, ◌≤◌, List, ◌++◌, String, Option, Some, None, Result}
use Rattle.std.specs.Prelude.{IfOk, IfErr, codes}
use Rattle.std.specs.IoError.{error_kind}
use Rattle.std.specs.declared.alloc.Global.{Global}
use Rattle.std.specs.declared.vec.IntoIter.{IntoIter}
use Rattle.std.specs.declared.io.Error.{Error}
use Rattle.std.specs.declared.io.ErrorKind.TheVariants as kinds
use Rattle.pm_io.specs.declared.device.Source as source
use Rattle.pm_io.specs.declared.device.Sink as sink
use Rattle.pm_io.specs.Devices.{Unread, Unput, Tells}
use Rattle.pm_io.specs.Endings.{Untouched, CountsFaults, NoneFailed}

-- The name of a program and the words after it, or why they couldn't be gathered.
abbrev pub Arguments : Type 0
Arguments = Result (IntoIter (String Global) Global) Error

-- How each program ends. Where the words aren't understood nothing is read or put. Words that can't
-- be gathered aren't understood, but for want of memory, of which nothing is said; and nothing is
-- read. The count of a device that failed rises, and no other does.
pub record Endings {S K E : Type 0} (s : source.Ghosts S) (k : sink.Ghosts K) (e : sink.Ghosts E)
    (args : Arguments) (status : ℕ) (input input_now : S) (out out_now : K)
    (err err_now : E) : Type 0 where
  pub statuses : status ≤ 5
  pub untouched : status ≡ 2 → Untouched s k input input_now out out_now
  pub not_text : IfErr args (λ x. error_kind x ≢ kinds.OutOfMemory → status ≡ 2)
  pub no_memory : IfErr args (λ x. error_kind x ≡ kinds.OutOfMemory → status ≡ 5)
  pub unread : IfErr args (λ _. Unread s input input_now)
  pub unsaid : IfErr args (λ _. status ≡ 5 → Unput e err err_now)
  pub counts : CountsFaults s k status input input_now out out_now

-- How a program of this name ends that puts its output once it has made all of it. Words that ask
-- for nothing are refused, and only they. But for status 0 and a write that failed nothing was put.
-- Where no device failed and the words are understood, the work is done, or the input has a fault,
-- or memory is wanted.
pub record Outcomes {S K E A : Type 0} (s : source.Ghosts S) (k : sink.Ghosts K)
    (e : sink.Ghosts E) (program : List ℕ) (args : Arguments) (asked : Option A) (status : ℕ)
    (input input_now : S) (out out_now : K) (err err_now : E) : Type 0 where
  pub refused : IfOk args (λ _. asked ≡ None → status ≡ 2)
  pub known : status ≡ 2 → asked ≡ None
  pub nothing_put : (status ≡ 1) ⊎ ((status ≡ 3) ⊎ (status ≡ 5)) → k.got out_now ≡ k.got out
  pub said_memory : IfOk args (λ _. status ≡ 5
      → Tells e err err_now (program ++ codes ": out of memory\n"))
  pub complete : (a : A) → asked ≡ Some a → NoneFailed s k input input_now out out_now
      → (status ≡ 0) ⊎ ((status ≡ 1) ⊎ (status ≡ 5))

-- What a program of this name says that stops where its input isn't at fault, but for memory.
pub record SaysStops {E : Type 0} (e : sink.Ghosts E) (program : List ℕ) (status : ℕ)
    (err err_now : E) : Type 0 where
  pub said_words : status ≡ 2 → Tells e err err_now (program ++ codes ": words not understood\n")
  pub said_read : status ≡ 3 → Tells e err err_now (program ++ codes ": read fault\n")
  pub said_write : status ≡ 4 → Tells e err err_now (program ++ codes ": write fault\n")
