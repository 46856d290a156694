use Rattle.std.proofs.Common.{◌≡◌, ◌≤◌, List, true, length}
use Rattle.std.specs.Option.{IfSome}
use Rattle.pm_base.specs.declared.log.Collapse.{Collapse}
use Rattle.pm_base.specs.Meshes.{Mesh}
use Rattle.pm_links.specs.Lists.{has}
use Rattle.pm_shrink.specs.Shrinking.{fan_at}
use Rattle.pm_shrink.specs.Following.{IsAfter}
use Rattle.pm_policies.specs.Policies.{Policy}
use Rattle.pm_simplify.specs.Walks.{still, IsWalk, IsRightBeside}
use Rattle.pm_simplify.proofs.around.pass_resting.Given as goal

abbrev pub invariant-loop-at : goal.invariant-loop-at
invariant-loop-at l = record {
  held : IfSome l.at (λ c. has (fan_at l.shrink l.v) c.0 ≡ true);
  shorter : length (still l.at (fan_at l.shrink l.v))
      ≤ length (still l.fn.first (fan_at l.shrink l.v));
  walk : (p : Policy) (m : Mesh) (log : List Collapse) → IsAfter m log l.shrink
      → IsWalk (fan_at l.shrink l.v) (IsRightBeside p m log l.queue) l.fn.first
      → IsWalk (fan_at l.shrink l.v) (IsRightBeside p m log l.queue) l.at;
}

abbrev pub decreases-loop-at : goal.decreases-loop-at
decreases-loop-at l = length (still l.at (fan_at l.shrink l.v))
