-- What is said of an ending, over devices as they were and as they are.
use Rattle.std.specs.Prelude.{ℕ, Option, IfSome}
use Rattle.pm_io.specs.declared.device.Source as source
use Rattle.pm_io.specs.declared.device.Sink as sink
use Rattle.pm_io.specs.Devices.{Tells}
use Rattle.obj_fit.specs.declared.fault.Fault.{Fault}
use Rattle.obj_fit.specs.Fails.{HasPreparedFault, PlaceUnreached}
use Rattle.prepare.specs.Ending.{Finished, IsPreparedInPart, prepare_fault_line}
use Rattle.prepare.specs.Gains.{GainsFitText, GainsWayBack, StaysAsItIs}

-- A mesh was made of what the source had left, exactly its text was put, and what was done is said.
abbrev pub Finishes : {S K E : Type 0} → source.Ghosts S → sink.Ghosts K → sink.Ghosts E → Option ℕ
    → S → K → K → E → E → Type 0
Finishes s k e size input before now err_before err_now =
    IfSome (s.left input) (λ bytes. Finished size bytes (k.got before) (k.got now)
    (e.got err_before) (e.got err_now) (e.faults err_before) (e.faults err_now))

-- What was put is read as an oriented manifold, and prepared again it comes back.
abbrev pub PutsFitText : {S K : Type 0} → source.Ghosts S → sink.Ghosts K → S → K → K → Type 0
PutsFitText s k input before now =
    IfSome (s.left input) (λ bytes. GainsFitText (k.got before) (k.got now))

-- The first line of what was put leads from places to the points that were read.
abbrev pub LeadsBack : {S K : Type 0} → source.Ghosts S → sink.Ghosts K → Option ℕ → S → K → K
    → Type 0
LeadsBack s k size input before now =
    IfSome (s.left input) (λ bytes. GainsWayBack size bytes (k.got before) (k.got now))

-- Triangles that need nothing were put as they are.
abbrev pub PutsAsItIs : {S K E : Type 0} → source.Ghosts S → sink.Ghosts K → sink.Ghosts E
    → Option ℕ → S → K → K → E → E → Type 0
PutsAsItIs s k e size input before now err_before err_now =
    IfSome (s.left input) (λ bytes. StaysAsItIs size bytes (k.got before) (k.got now)
    (e.got err_before) (e.got err_now) (e.faults err_before) (e.faults err_now))

-- What the source had left has a fault, which is said.
abbrev pub TellsFault : {S E : Type 0} → source.Ghosts S → sink.Ghosts E → Option ℕ → S → E → E
    → Type 0
TellsFault s e size input before now = (f : Fault)
    × IfSome (s.left input) (λ bytes. HasPreparedFault size bytes f)
    × Tells e before now (prepare_fault_line f)

-- The bytes that were read don't reach the place that decides.
abbrev pub Unreached : {S : Type 0} → source.Ghosts S → Option ℕ → S → S → Type 0
Unreached s size before now = PlaceUnreached size (s.left before) (s.left now)

-- A proper prefix of the text was put.
abbrev pub Breaks : {S K : Type 0} → source.Ghosts S → sink.Ghosts K → Option ℕ → S → K → K
    → Type 0
Breaks s k size input before now =
    IfSome (s.left input) (λ bytes. IsPreparedInPart size bytes (k.got before) (k.got now))
