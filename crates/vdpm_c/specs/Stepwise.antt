-- What crosses to C of what is made of a text in steps.
use Rattle.std.specs.Prelude.{◌≡◌, ℕ, Bool, true, false, length, Some, IsSome}
use Rattle.pm_runs.specs.Surfaces.{face_count_of}
use Rattle.pm_runs.specs.Runs.{surface_after}
use Rattle.pm_commands.specs.Stepwise.{SteppedRun}
use Rattle.vdpm_c.specs.declared.tables.RunHandle.{RunHandle}
use Rattle.vdpm_c.specs.declared.tables.ProgressTold.{ProgressTold}

-- A handle that is open has a run. C owes it, and each function leaves it so.
abbrev pub IsWholeRun : RunHandle → Type 0
IsWholeRun handle = handle.open ≡ 1 → IsSome handle.slot.value

-- The handle is open, with this run.
abbrev pub HasRun : RunHandle → SteppedRun → Type 0
HasRun handle s = (handle.open ≡ 1) × (handle.slot.value ≡ Some s)

-- 1 tells that it is so, and 0 that it isn't.
abbrev pub flag_told : Bool → ℕ
flag_told true = 1
flag_told false = 0

-- How many faces there were and are left, how many collapses were done, and whether it is known
-- that this is the end.
pub record IsProgressTold (s : SteppedRun) (told : ProgressTold) : Type 0 where
  pub faces : told.faces ≡ length s.run.mesh.faces
  pub left : told.faces_left ≡ face_count_of (surface_after s.run.mesh s.run.log)
  pub collapses : told.collapses ≡ length s.run.log
  pub ended : told.ended ≡ flag_told s.run.ended
