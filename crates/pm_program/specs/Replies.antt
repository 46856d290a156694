-- What became of the devices of a program that makes a text of its input, by how it ended.
use Rattle.std.specs.Prelude.{◌≡◌, ◌⊎◌, ℕ, List, IfSome}
use Rattle.pm_io.specs.declared.device.Source as source
use Rattle.pm_io.specs.declared.device.Sink as sink
use Rattle.pm_io.specs.Bytes.{Gains}
use Rattle.pm_io.specs.Devices.{Tells}
use Rattle.pm_program.specs.declared.making.TheConstants.{MOST}
use Rattle.pm_program.specs.Input.{ReadsTo, StopsShort}
use Rattle.pm_program.specs.Making.{front, Replied, CutShort}

-- What is made of what the source had left was put.
abbrev pub Replies : {S K : Type 0} → source.Ghosts S → sink.Ghosts K
    → (List ℕ → List ℕ → Type 0) → S → K → K → Type 0
Replies s k makes input before now =
    IfSome (s.left input) (λ bytes. Replied makes (front bytes) (k.got before) (k.got now))

-- A proper prefix of it was put.
abbrev pub Breaks : {S K : Type 0} → source.Ghosts S → sink.Ghosts K
    → (List ℕ → List ℕ → Type 0) → S → K → K → Type 0
Breaks s k makes input before now =
    IfSome (s.left input) (λ bytes. CutShort makes (front bytes) (k.got before) (k.got now))

-- Whatever is made of what the source had left was put, unless memory was wanting.
abbrev pub PutsAll : {S K : Type 0} → source.Ghosts S → sink.Ghosts K
    → (List ℕ → List ℕ → Type 0) → ℕ → S → K → K → Type 0
PutsAll s k makes status input before now =
    IfSome (s.left input) (λ bytes. (text : List ℕ) → makes (front bytes) text
    → ((status ≡ 0) × Gains (k.got before) (k.got now) text) ⊎ (status ≡ 5))

-- What the source had left has a fault, whose line is said.
abbrev pub TellsFault : {S E F : Type 0} → source.Ghosts S → sink.Ghosts E
    → (List ℕ → F → Type 0) → (F → List ℕ) → S → E → E → Type 0
TellsFault {S} {E} {F} s e refuses fault_line input before now = (f : F)
    × IfSome (s.left input) (λ bytes. refuses (front bytes) f)
    × Tells e before now (fault_line f)

-- The source was read to its end, or as far as bytes are looked at.
abbrev pub ReadsFront : {S : Type 0} → source.Ghosts S → S → S → Type 0
ReadsFront s input now = ReadsTo MOST (s.left input) (s.left now)

-- It wasn't read as far.
abbrev pub Unreached : {S : Type 0} → source.Ghosts S → S → S → Type 0
Unreached s input now = StopsShort MOST (s.left input) (s.left now)
