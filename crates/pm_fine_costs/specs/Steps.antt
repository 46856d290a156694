-- The run by the fine policy in steps, as contracts see it.
use Rattle.std.specs.Prelude.{◌≡◌, ℕ, Bool, List, length}
use Rattle.pm_base.specs.declared.log.Collapse.{Collapse}
use Rattle.pm_base.specs.Meshes.{Mesh}
use Rattle.pm_runs.specs.Surfaces.{face_count_of}
use Rattle.pm_runs.specs.Runs.{surface_after}
use Rattle.pm_keeping.specs.Keeping.{kept_in}
use Rattle.pm_policies.specs.Policies.{Policy}
use Rattle.pm_simplify.specs.Going.{AddsUpTo}
use Rattle.pm_fine_costs.specs.declared.steps.Progress.{Progress}
use Rattle.pm_fine_costs.specs.FinePolicy.{fine_keeping}

-- The mesh at first, the flags of the vertices that are kept, the number of faces to which the run
-- goes, the log so far, and whether it is known that this is the end.
pub record Stepwise : Type 0 where
  pub mesh : Mesh
  pub kept : List Bool
  pub target : ℕ
  pub log : List Collapse
  pub ended : Bool

-- By what the run goes.
abbrev pub policy_of : Stepwise → Policy
policy_of r = fine_keeping (kept_in r.kept)

-- The same run with at most so many collapses more, and as many where it isn't at its end.
pub record GoesOnTo (most : ℕ) (old new : Stepwise) : Type 0 where
  pub mesh : new.mesh ≡ old.mesh
  pub kept : new.kept ≡ old.kept
  pub target : new.target ≡ old.target
  pub adds : AddsUpTo most new.ended old.log new.log

-- How many faces there were and are left, how many collapses were done, and whether it is known
-- that this is the end.
pub record IsProgressOf (r : Stepwise) (told : Progress) : Type 0 where
  pub faces : told.faces ≡ length r.mesh.faces
  pub left : told.faces_left ≡ face_count_of (surface_after r.mesh r.log)
  pub collapses : told.collapses ≡ length r.log
  pub ended : told.ended ≡ r.ended
