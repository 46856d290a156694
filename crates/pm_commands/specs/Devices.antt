-- What is said of an ending, over devices as they were and as they are.
use Rattle.std.specs.Prelude.{ℕ, Option, IfSome}
use Rattle.pm_io.specs.declared.device.Source as source
use Rattle.pm_io.specs.declared.device.Sink as sink
use Rattle.pm_commands.specs.declared.asked.Border.{Border}
use Rattle.pm_commands.specs.declared.asked.Asked.{Asked}
use Rattle.pm_commands.specs.declared.asked.Asked.TheVariants as asked
use Rattle.pm_commands.specs.declared.fault.Fault.{Fault}
use Rattle.pm_commands.specs.Simplified.{IsSimplifiedText}
use Rattle.pm_commands.specs.Outcome.{Replied, GivesMeshBack, GivesBack, CutShort}
use Rattle.pm_commands.specs.Frames.{ShowsSurfaces, ShowsSurfacesOf}
use Rattle.pm_commands.specs.Borders.{FramesShowBorder}

-- The outcome of what the source had left has this fault, or none, and exactly its text was put.
abbrev pub Replies : {S K : Type 0} → source.Ghosts S → sink.Ghosts K → Asked → Option Fault → S → K
    → K → Type 0
Replies s k asked fault input before now =
    IfSome (s.left input) (λ bytes. Replied asked bytes fault (k.got before) (k.got now))

-- What was put of a build leads back to the mesh.
abbrev pub LeadsBack : {S K : Type 0} → source.Ghosts S → sink.Ghosts K → ℕ → ℕ → S → K → K → Type 0
LeadsBack s k target digits input before now =
    IfSome (s.left input) (λ bytes. GivesBack target digits bytes (k.got before) (k.got now))

-- Each frame of what was put of a build shows an oriented manifold.
abbrev pub FramesAreSurfaces : {S K : Type 0} → source.Ghosts S → sink.Ghosts K → ℕ → ℕ → S → K → K
    → Type 0
FramesAreSurfaces s k target digits input before now =
    IfSome (s.left input) (λ bytes. ShowsSurfaces target digits bytes (k.got before) (k.got now))

-- The same of what was put of a mesh that was simplified, its border free or kept.
abbrev pub SimplifiedLeadsBack : {S K : Type 0} → source.Ghosts S → sink.Ghosts K → ℕ → ℕ → Border
    → S → K → K → Type 0
SimplifiedLeadsBack s k target digits border input before now =
    IfSome (s.left input) (λ bytes. GivesMeshBack (asked.Simplify target digits border) bytes
    (k.got before) (k.got now))

abbrev pub SimplifiedShowsSurfaces : {S K : Type 0} → source.Ghosts S → sink.Ghosts K → ℕ → ℕ
    → Border → S → K → K → Type 0
SimplifiedShowsSurfaces s k target digits border input before now =
    IfSome (s.left input) (λ bytes. ShowsSurfacesOf (IsSimplifiedText border target digits) digits
    bytes (k.got before) (k.got now))

-- Each frame of what was put with the border kept shows exactly that border.
abbrev pub ShowsKeptBorder : {S K : Type 0} → source.Ghosts S → sink.Ghosts K → ℕ → ℕ → S → K → K
    → Type 0
ShowsKeptBorder s k target digits input before now =
    IfSome (s.left input) (λ bytes. FramesShowBorder target digits bytes (k.got before)
    (k.got now))

-- A proper prefix of the outcome's text was put.
abbrev pub Breaks : {S K : Type 0} → source.Ghosts S → sink.Ghosts K → Asked → S → K → K → Type 0
Breaks s k asked input before now =
    IfSome (s.left input) (λ bytes. CutShort asked bytes (k.got before) (k.got now))
