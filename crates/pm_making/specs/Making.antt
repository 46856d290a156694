-- What is made of a text in memory.
use Rattle.std.specs.Prelude.{◌≡◌, ℕ, Bool, true, false, List, [], Option, Some, None, Result, Ok}
use Rattle.pm_forest.specs.Forest.{Hierarchy}
use Rattle.pm_format.specs.Stream.{stream}
use Rattle.obj_fit.specs.declared.scale.Scale.{Scale}
use Rattle.pm_commands.specs.declared.asked.Asked.{Asked}
use Rattle.pm_commands.specs.declared.fault.Fault.{Fault}
use Rattle.pm_commands.specs.declared.fault.Fault.TheVariants as faults
use Rattle.pm_commands.specs.Input.{IsFaulty}
use Rattle.pm_commands.specs.Outcome.{Replied, GivesMeshBack}
use Rattle.pm_making.specs.declared.fail.BuildFail.{BuildFail}
use Rattle.pm_making.specs.declared.fail.BuildFail.TheVariants as fails

-- The bytes that were made, the lines that are said beside them, and how their mesh's positions
-- lead back to coordinates, where those were scaled.
pub record MadeText : Type 0 where
  pub bytes : List ℕ
  pub notes : List ℕ
  pub scale : Option Scale

-- The bytes are the stream text of a hierarchy that is made of the text, where `IsMade` says which,
-- and lead back to the text's mesh: `expand` does with them what `canon` does with the text.
-- Nothing is said beside them, and no scale is told.
pub record IsStreamOf
    (IsMade : List ℕ → Result Hierarchy Fault → Option ℕ → Type 0) (asks : Asked) (digits : ℕ)
    (text : List ℕ) (all : MadeText) : Type 0 where
  pub h : Hierarchy
  pub made : IsMade text (Ok h) None
  pub bytes : all.bytes ≡ stream digits h
  pub notes : all.notes ≡ []
  pub scale : all.scale ≡ None
  pub back : GivesMeshBack asks text (Some []) (Some all.bytes)

-- Why no stream is made of a text: the text has a fault. Want of memory is none of its own.
abbrev pub IsRefusedBy :
    (List ℕ → Result Hierarchy Fault → Option ℕ → Type 0) → List ℕ → BuildFail → Type 0
IsRefusedBy IsMade text (fails.Faulty f) = IsFaulty IsMade text f
IsRefusedBy IsMade text fails.OutOfMemory = Unit {0}

-- Why a command makes nothing of a text: the outcome has this fault. Want of memory is none.
abbrev pub IsEndOf : Asked → List ℕ → BuildFail → Type 0
IsEndOf asks text (fails.Faulty f) =
    (now : List ℕ) × Replied asks text (Some f) (Some []) (Some now)
IsEndOf asks text fails.OutOfMemory = Unit {0}

-- A fault that an OBJ text can have.
abbrev pub is_text_fault : Fault → Bool
is_text_fault (faults.Obj e n) = true
is_text_fault (faults.EdgeTwice face) = true
is_text_fault (faults.NotFan vertex) = true
is_text_fault faults.NoMesh = true
is_text_fault f = false
