-- How the program does what was asked for, by the status.
use Rattle.std.specs.Prelude.{◌≡◌, ◌⊎◌, ℕ, List, None, Some}
use Rattle.pm_io.specs.declared.device.Source as source
use Rattle.pm_io.specs.declared.device.Sink as sink
use Rattle.pm_io.specs.Causes.{Rose}
use Rattle.pm_io.specs.Devices.{Tells}
use Rattle.pm_io.specs.Endings.{NoneFailed}
use Rattle.pm_commands.specs.declared.fault.Fault.{Fault}
use Rattle.pm_commands.specs.declared.asked.Asked.{Asked}
use Rattle.pm_commands.specs.declared.asked.Asked.TheVariants as asked
use Rattle.pm_commands.specs.declared.asked.Border.{Border}
use Rattle.pm_commands.specs.declared.asked.Border.TheVariants as borders
use Rattle.pm_commands.specs.Ran.{Ran}
use Rattle.pm_commands.specs.Outcome.{IsOutcome}
use Rattle.pm_commands.specs.Ending.{ReadFails, ReadToEnd, Answers}
use Rattle.pm_commands.specs.Devices.{Replies, SimplifiedLeadsBack, Breaks}
use Rattle.pm_commands.specs.Devices.{SimplifiedShowsSurfaces, ShowsKeptBorder}
use Rattle.simplify.specs.FaultLine.{fault_line}

-- How it does what its words or arguments ask for.
--
-- With status 0 the outcome is whole, exactly its text was put, and the input was read to its end,
-- where that decides the outcome. What `canon` does with the OBJ text, `expand` does with the
-- stream, and each frame that `view` writes of it shows an oriented manifold; where the border was
-- kept, with exactly the border sides of the text's mesh, at the same places.
--
-- With status 1 the outcome has a fault, which is said, and the text before it was put, which is
-- none. With 3 a read failed before the bytes that decide the outcome were all taken, and nothing
-- was put. With 4 a write failed, and a proper prefix of the text was put.
--
-- Where no device failed, a whole outcome gives 0 and a fault gives 1, unless memory is wanted.
pub record Obeys {S K E : Type 0} (s : source.Ghosts S) (k : sink.Ghosts K) (e : sink.Ghosts E)
    (asks : Asked → Type 0) (status : ℕ) (input input_now : S) (out out_now : K)
    (err err_now : E) : Type 0 where
  pub whole : (a : Asked) → asks a → status ≡ 0 → Replies s k a None input out out_now
  pub read_whole : (a : Asked) → asks a → status ≡ 0
      → ReadToEnd a (s.left input) (s.left input_now)
  pub expands : (target digits : ℕ) (border : Border) → asks (asked.Simplify target digits border)
      → status ≡ 0 → SimplifiedLeadsBack s k target digits border input out out_now
  pub surfaces : (target digits : ℕ) (border : Border) → asks (asked.Simplify target digits border)
      → status ≡ 0 → SimplifiedShowsSurfaces s k target digits border input out out_now
  pub meets : (target digits : ℕ) → asks (asked.Simplify target digits borders.Kept)
      → status ≡ 0 → ShowsKeptBorder s k target digits input out out_now
  pub faulty : (a : Asked) → asks a → status ≡ 1 → (f : Fault)
      × Replies s k a (Some f) input out out_now × Tells e err err_now (fault_line f)
  pub unreached : (a : Asked) → asks a → status ≡ 3
      → ReadFails a (s.left input) (s.left input_now) (k.got out) (k.got out_now)
  pub write : (a : Asked) → asks a → status ≡ 4
      → Rose (k.faults out) (k.faults out_now) × Breaks s k a input out out_now
  pub memory : status ≡ 5 → k.got out_now ≡ k.got out
  pub complete : (a : Asked) (bytes : List ℕ) (all : Ran) → asks a → s.left input ≡ Some bytes
      → IsOutcome a bytes all → NoneFailed s k input input_now out out_now
      → Answers all.fault status ⊎ (status ≡ 5)
