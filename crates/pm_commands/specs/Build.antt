-- What `build` makes of an OBJ text: the hierarchy of the run of its mesh to a number of faces.
use Rattle.std.specs.Prelude.{◌≡◌, ℕ, List, Option, Result, Ok, Err}
use Rattle.pm_base.specs.Meshes.{Mesh}
use Rattle.pm_base.specs.declared.log.Collapse.{Collapse}
use Rattle.pm_forest.specs.Forest.{Hierarchy}
use Rattle.pm_runs.specs.Runs.{IsRunTo}
use Rattle.pm_number.specs.Numbering.{hierarchy_of_run}
use Rattle.pm_commands.specs.declared.fault.Fault.{Fault}
use Rattle.pm_commands.specs.Surface.{IsSurfaceRead}

-- The hierarchy is that of a log of the mesh's run to the target, each time by the legal pair of
-- least cost. There is one such log: `OneRunToATarget`.
pub record IsSimplified (m : Mesh) (target : ℕ) (h : Hierarchy) : Type 0 where
  pub log : List Collapse
  pub run : IsRunTo m target log
  pub made : h ≡ hierarchy_of_run m log

-- The text gives no mesh, or this hierarchy is made of its mesh, where `IsRead` says what mesh a
-- text gives and `Makes` what is made of a mesh; and how many bytes decide that, where it isn't the
-- end of the text.
pub data IsMadeOf
    (IsRead : List ℕ → Result Mesh Fault → Option ℕ → Type 0) (Makes : Mesh → Hierarchy → Type 0)
    (bytes : List ℕ) : Result Hierarchy Fault → Option ℕ → Type 0 where
  no_surface : (f : Fault) (place : Option ℕ) → IsRead bytes (Err f) place
      → IsMadeOf IsRead Makes bytes (Err f) place
  made : (m : Mesh) (h : Hierarchy) (place : Option ℕ) → IsRead bytes (Ok m) place → Makes m h
      → IsMadeOf IsRead Makes bytes (Ok h) place

-- The text gives no mesh, or its mesh is simplified.
abbrev pub IsBuilt : ℕ → ℕ → List ℕ → Result Hierarchy Fault → Option ℕ → Type 0
IsBuilt target digits = IsMadeOf (IsSurfaceRead digits) (λ m h. IsSimplified m target h)
