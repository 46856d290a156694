-- The program `simplify` in steps.
use Rattle.std.specs.Prelude.{◌≡◌, ℕ, true, false, List, [], None, Ok}
use Rattle.pm_forest.specs.Forest.{Hierarchy}
use Rattle.pm_forest.specs.Meshes.{input_mesh_of}
use Rattle.pm_firm.specs.Firm.{IsFirm}
use Rattle.pm_keeping.specs.Keeping.{kept_in}
use Rattle.pm_policies.specs.PolicyRuns.{IsEndBy}
use Rattle.pm_fine_costs.specs.Steps.{Stepwise, GoesOnTo, policy_of}
use Rattle.pm_commands.specs.declared.asked.Border.{Border}
use Rattle.pm_commands.specs.Surface.{IsSurfaceGiven}
use Rattle.pm_commands.specs.Simplified.{IsKeptWith, IsSimplifiedWith}

-- A run by the fine policy, and with how many decimals a coordinate it is written.
pub record SteppedRun : Type 0 where
  pub run : Stepwise
  pub digits : ℕ

-- It is the run of the mesh that the text gives, with its border free or kept.
pub record IsRunOf (border : Border) (text : List ℕ) (s : SteppedRun) : Type 0 where
  pub given : IsSurfaceGiven s.digits text (Ok s.run.mesh) None
  pub keeps : IsKeptWith border s.run.mesh (kept_in s.run.kept)

-- It is that run before its first collapse.
pub record IsBegun (border : Border) (faces decimals : ℕ) (text : List ℕ) (s : SteppedRun)
    : Type 0 where
  pub of_text : IsRunOf border text s
  pub target : s.run.target ≡ faces
  pub digits : s.digits ≡ decimals
  pub fresh : s.run.log ≡ []
  pub going : s.run.ended ≡ false

-- The same run with at most so many collapses more, and as many where it isn't at its end, which is
-- told. At the end nothing is done.
pub record HasStepped (most : ℕ) (old new : SteppedRun) : Type 0 where
  pub goes_on : GoesOnTo most old.run new.run
  pub digits : new.digits ≡ old.digits
  pub end_told : new.run.ended ≡ true → IsEndBy (policy_of new.run) new.run.mesh new.run.target
      new.run.log
  pub end : IsEndBy (policy_of new.run) new.run.mesh new.run.target new.run.log
      → new.run.ended ≡ true
  pub rests : old.run.ended ≡ true → new ≡ old

-- The hierarchy is what `simplify` makes of the mesh.
pub record SimplifiesText (s : SteppedRun) (h : Hierarchy) : Type 0 where
  pub made : (border : Border) → IsKeptWith border s.run.mesh (kept_in s.run.kept)
      → IsSimplifiedWith border s.run.mesh s.run.target h
  pub firm : IsFirm h
  pub mesh : input_mesh_of h ≡ s.run.mesh
