-- What holds of a run by the fine policy between its steps.
use Rattle.std.specs.Prelude.{◌≡◌, Bool, true}
use Rattle.pm_base.specs.Meshes.{Mesh}
use Rattle.pm_keeping.specs.Keeping.{kept_in}
use Rattle.pm_policies.specs.PolicyRuns.{IsEndBy}
use Rattle.pm_slots.specs.Slots.{Slotted}
use Rattle.pm_simplify.specs.declared.stepwise.Run.{Run}
use Rattle.pm_simplify.specs.Going.{IsGoing}
use Rattle.pm_fine_costs.specs.declared.pair.BothQuadrics.{BothQuadrics}
use Rattle.pm_fine_costs.specs.FinePolicy.{fine_keeping}
use Rattle.pm_fine_costs.specs.FineCosts.{GoesByFine}

-- The run of the mesh goes on by the fine policy, and where it is said to be at its end it is.
pub record IsGoingOn (r : Run (Slotted BothQuadrics)) (ended : Bool) (m : Mesh) : Type 0 where
  pub going : IsGoing r.shrink (GoesByFine r.costs) r.kept.items r.edges r.log r.target_faces
      (fine_keeping (kept_in r.kept.items)) m
  pub end : ended ≡ true → IsEndBy (fine_keeping (kept_in r.kept.items)) m r.target_faces
      r.log.items
