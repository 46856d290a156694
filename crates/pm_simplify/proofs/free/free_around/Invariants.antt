use Rattle.std.proofs.Common.{◌≡◌, ℕ, List, [], length}
use Rattle.pm_base.specs.declared.log.Collapse.{Collapse}
use Rattle.pm_base.specs.Meshes.{Mesh}
use Rattle.pm_base.specs.Sides.{face_of}
use Rattle.pm_links.specs.Lists.{list_of}
use Rattle.pm_shrink.specs.Shrinking.{fan_at}
use Rattle.pm_simplify.specs.OnRuns.{IsOnRun}
use Rattle.pm_policies.specs.Policies.{Policy}
use Rattle.pm_simplify.specs.Choices.{IsRight}
use Rattle.pm_simplify.specs.Walks.{still, IsWalk}
use Rattle.pm_simplify.proofs.free.free_around.Given as goal

abbrev pub invariant-loop-at : goal.invariant-loop-at
invariant-loop-at g l = record {
  room : length l.queue ≡ length l.fn.queue;
  items : l.waiting.items ≡ l.fn.waiting.items;
  heads : length l.waiting.lists ≡ length l.fn.waiting.lists;
  walk : IsWalk (fan_at l.shrink l.v) (λ e. list_of l.waiting (face_of e) ≡ []) l.at;
  others : (f : ℕ) → list_of l.fn.waiting f ≡ [] → list_of l.waiting f ≡ [];
  right : (p : Policy) (m : Mesh) (log : List Collapse)
      → IsOnRun l.shrink (g.C.Costs.goes_by l.costs) l.kept p m log
      → IsRight p m log l.fn.queue l.fn.waiting → IsRight p m log l.queue l.waiting;
}

abbrev pub decreases-loop-at : goal.decreases-loop-at
decreases-loop-at g l = length (still l.at (fan_at l.shrink l.v))
