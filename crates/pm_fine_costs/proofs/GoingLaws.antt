-- A run by the fine policy between its steps.
use Rattle.std.proofs.Common.{◌≡◌, ℕ, Bool, List, sym, subst}
use Rattle.pm_base.specs.declared.log.Collapse.{Collapse}
use Rattle.pm_base.specs.Meshes.{Mesh}
use Rattle.pm_keeping.specs.Keeping.{kept_in}
use Rattle.pm_policies.specs.PolicyRuns.{IsEndBy}
use Rattle.pm_fine_costs.specs.FinePolicy.{fine_keeping}

-- The end of a run is that of the same run.
pub same_end : (m : Mesh) (flags old : List Bool) (target before : ℕ) (log : List Collapse)
    → flags ≡ old → target ≡ before → IsEndBy (fine_keeping (kept_in old)) m before log
    → IsEndBy (fine_keeping (kept_in flags)) m target log
same_end m flags old target before log same to end =
    subst (λ (n : ℕ). IsEndBy (fine_keeping (kept_in flags)) m n log) (sym to)
    (subst (λ (l : List Bool). IsEndBy (fine_keeping (kept_in l)) m before log) (sym same) end)
