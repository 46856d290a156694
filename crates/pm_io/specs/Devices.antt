-- What became of a device, over the device as it was and as it is.
use Rattle.std.specs.Prelude.{ℕ, List}
use Rattle.pm_io.specs.declared.device.Source as source
use Rattle.pm_io.specs.declared.device.Sink as sink
use Rattle.pm_io.specs.Puts.{Said, Stayed}

-- Nothing was read.
abbrev pub Unread : {S : Type 0} → source.Ghosts S → S → S → Type 0
Unread s before now = Stayed (s.left before) (s.left now) (s.faults before) (s.faults now)

-- Nothing was put.
abbrev pub Unput : {K : Type 0} → sink.Ghosts K → K → K → Type 0
Unput k before now = Stayed (k.got before) (k.got now) (k.faults before) (k.faults now)

-- The error sink gained the line, or a part of it where it failed.
abbrev pub Tells : {E : Type 0} → sink.Ghosts E → E → E → List ℕ → Type 0
Tells e before now line = Said (e.got before) (e.got now) (e.faults before) (e.faults now) line
