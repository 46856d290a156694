use Rattle.std.proofs.Common.{subst, ◌≤◌, ◌<◌, ℕ}
use Rattle.pm_forest.specs.Forest.{record_count}
use Rattle.pm_beyond.specs.Valid.{IsAsTold}
use Rattle.pm_sides.specs.Lowering.{Lowered}
use Rattle.pm_sides.proofs.lowering.Lowering.invariant.Goals as goal

pub returns-clause-rules : goal.returns-clause-rules
returns-clause-rules c =
    subst (λ (o : Lowered). (k : ℕ) → o.left ≤ k → k < record_count o.h → IsAsTold o.h k)
    c.self.view_is c.self.invariant.lowered.told
