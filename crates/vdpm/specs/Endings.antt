-- How the program does what was asked for, by the status.
use Rattle.std.specs.Prelude.{◌≡◌, ◌⊎◌, ℕ, List, Option, None, Some}
use Rattle.pm_io.specs.declared.device.Source as source
use Rattle.pm_io.specs.declared.device.Sink as sink
use Rattle.pm_io.specs.Causes.{Rose}
use Rattle.pm_io.specs.Devices.{Unread, Tells}
use Rattle.pm_io.specs.Endings.{NoneFailed}
use Rattle.pm_commands.specs.declared.fault.Fault.{Fault}
use Rattle.pm_commands.specs.declared.asked.Asked.{Asked}
use Rattle.pm_commands.specs.declared.asked.Asked.TheVariants as asked
use Rattle.pm_commands.specs.Ran.{Ran}
use Rattle.pm_commands.specs.Outcome.{IsOutcome}
use Rattle.pm_commands.specs.Ending.{ReadToEnd, ReadToPlace, FewMore, FewMoreLive, ReadFails}
use Rattle.pm_commands.specs.Ending.{BlamesNoInput, Answers}
use Rattle.pm_commands.specs.Devices.{Breaks, Replies, LeadsBack, FramesAreSurfaces}
use Rattle.vdpm.specs.FaultLine.{fault_line}

-- The input was read to its end, or, where a byte of it decides the outcome, as the `q` of a script
-- does, to that byte and few bytes past it.
abbrev pub ReadsTo : Asked → Option (List ℕ) → Option (List ℕ) → Type 0
ReadsTo asks left now = ReadToEnd asks left now × ReadToPlace asks left now

-- In a script, it was the reply to a line that wasn't put whole, and few bytes were taken past that
-- line.
abbrev pub CutsALine : Asked → Option (List ℕ) → Option (List ℕ) → Option (List ℕ)
    → Option (List ℕ) → Type 0
CutsALine (asked.View budget) left now old new = FewMore budget left now old new
CutsALine (asked.Live budget) left now old new = FewMoreLive budget left now old new
CutsALine _ left now old new = Unit {0}

-- A write failed, and a proper prefix of the text was put.
pub record WriteFails {S K : Type 0} (s : source.Ghosts S) (k : sink.Ghosts K) (asks : Asked)
    (input input_now : S) (out out_now : K) : Type 0 where
  pub rose : Rose (k.faults out) (k.faults out_now)
  pub part : Breaks s k asks input out out_now
  pub line : CutsALine asks (s.left input) (s.left input_now) (k.got out) (k.got out_now)

-- How it does what its words or arguments ask for.
--
-- With status 0 the outcome is whole, and exactly its text was put. What `canon` does with an OBJ
-- text, `expand` does with the stream that is built of it, and each frame that `view` writes of
-- that stream shows an oriented manifold. `demo` reads nothing.
--
-- With status 1 the outcome has a fault, which is said, and exactly the text before it was put.
-- With 3 a read failed before the bytes that decide the outcome were all taken.
--
-- Where no device failed, a whole outcome gives 0 and a fault gives 1, unless memory is wanted.
pub record Obeys {S K E : Type 0} (s : source.Ghosts S) (k : sink.Ghosts K) (e : sink.Ghosts E)
    (asks : Asked → Type 0) (status : ℕ) (input input_now : S) (out out_now : K)
    (err err_now : E) : Type 0 where
  pub whole : (a : Asked) → asks a → status ≡ 0 → Replies s k a None input out out_now
  pub read_to : (a : Asked) → asks a → status ≡ 0 → ReadsTo a (s.left input) (s.left input_now)
  pub expands : (target digits : ℕ) → asks (asked.Build target digits) → status ≡ 0
      → LeadsBack s k target digits input out out_now
  pub surfaces : (target digits : ℕ) → asks (asked.Build target digits) → status ≡ 0
      → FramesAreSurfaces s k target digits input out out_now
  pub demo_unread : (n : ℕ) → asks (asked.Demo n)
      → Unread s input input_now × BlamesNoInput status
  pub faulty : (a : Asked) → asks a → status ≡ 1 → (f : Fault)
      × Replies s k a (Some f) input out out_now × Tells e err err_now (fault_line f)
  pub unreached : (a : Asked) → asks a → status ≡ 3
      → ReadFails a (s.left input) (s.left input_now) (k.got out) (k.got out_now)
  pub write : (a : Asked) → asks a → status ≡ 4
      → WriteFails s k a input input_now out out_now
  pub memory : status ≡ 5 → k.got out_now ≡ k.got out
  pub complete : (a : Asked) (bytes : List ℕ) (all : Ran) → asks a → s.left input ≡ Some bytes
      → IsOutcome a bytes all → NoneFailed s k input input_now out out_now
      → Answers all.fault status ⊎ (status ≡ 5)
