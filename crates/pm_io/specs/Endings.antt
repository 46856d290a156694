-- What became of the devices of a program, as they were and as they are, with each status: 0 where
-- all was done, 1 where the input has a fault, 2 where the words aren't understood, 3 where a read
-- failed, 4 where a write did, and 5 where memory was wanting.
use Rattle.std.specs.Prelude.{◌≡◌, ℕ, ◌-◌, ◌^◌, ◌<◌, List, ◌++◌, codes}
use Rattle.pm_io.specs.declared.device.Source as source
use Rattle.pm_io.specs.declared.device.Sink as sink
use Rattle.pm_io.specs.Causes.{Rose}
use Rattle.pm_io.specs.Devices.{Unread, Unput, Tells}

-- Nothing was read or put.
abbrev pub Untouched : {S K : Type 0} → source.Ghosts S → sink.Ghosts K → S → S → K → K → Type 0
Untouched s k input input_now out out_now = Unread s input input_now × Unput k out out_now

-- Neither count of faults rose.
abbrev pub NoneRose : {S K : Type 0} → source.Ghosts S → sink.Ghosts K → S → S → K → K → Type 0
NoneRose s k input input_now out out_now =
    (s.faults input_now ≡ s.faults input) × (k.faults out_now ≡ k.faults out)

-- The count of a device that failed rose, and no other count did.
pub record CountsFaults {S K : Type 0} (s : source.Ghosts S) (k : sink.Ghosts K) (status : ℕ)
    (input input_now : S) (out out_now : K) : Type 0 where
  pub whole : status ≡ 0 → NoneRose s k input input_now out out_now
  pub faulty : status ≡ 1 → NoneRose s k input input_now out out_now
  pub words : status ≡ 2 → NoneRose s k input input_now out out_now
  pub read : status ≡ 3 → Rose (s.faults input) (s.faults input_now)
      × (k.faults out_now ≡ k.faults out)
  pub write : status ≡ 4 → (s.faults input_now ≡ s.faults input)
      × Rose (k.faults out) (k.faults out_now)
  pub memory : status ≡ 5 → NoneRose s k input input_now out out_now

-- Nothing was said where all was done, and else a line that begins with the program's name. (That
-- of a fault depends on it; that of memory is said once the words are there.)
pub record SaysEnding {E : Type 0} (e : sink.Ghosts E) (program : List ℕ) (status : ℕ)
    (err err_now : E) : Type 0 where
  pub silent : status ≡ 0 → Unput e err err_now
  pub words : status ≡ 2 → Tells e err err_now (program ++ codes ": words not understood\n")
  pub read : status ≡ 3 → Tells e err err_now (program ++ codes ": read fault\n")
  pub write : status ≡ 4 → Tells e err err_now (program ++ codes ": write fault\n")

-- The same, and the line of memory.
pub record Says {E : Type 0} (e : sink.Ghosts E) (program : List ℕ) (status : ℕ)
    (err err_now : E) : Type 0 where
  pub ending : SaysEnding e program status err err_now
  pub memory : status ≡ 5 → Tells e err err_now (program ++ codes ": out of memory\n")

-- No device failed: no count of faults rose, and each could have risen.
pub record NoneFailed {S K : Type 0} (s : source.Ghosts S) (k : sink.Ghosts K)
    (input input_now : S) (out out_now : K) : Type 0 where
  pub input_same : s.faults input_now ≡ s.faults input
  pub out_same : k.faults out_now ≡ k.faults out
  pub input_few : s.faults input < 2 ^ 64 - 1
  pub out_few : k.faults out < 2 ^ 64 - 1
