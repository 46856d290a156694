-- A run of collapses in steps.
use Rattle.std.specs.Prelude.{◌≡◌, ℕ, ◌+◌, ◌*◌, ◌≤◌, Bool, false, List, ◌++◌, length}
use Rattle.pm_base.specs.Held.{Held}
use Rattle.pm_base.specs.declared.log.Collapse.{Collapse}
use Rattle.pm_base.specs.Meshes.{Mesh}
use Rattle.pm_base.specs.Sides.{side_count}
use Rattle.pm_links.specs.Lists.{Lists}
use Rattle.pm_queue.specs.Entries.{Entries}
use Rattle.pm_policies.specs.Policies.{Policy}
use Rattle.pm_policies.specs.PolicyRuns.{IsBegunBy}
use Rattle.pm_shrink.specs.Shrinking.{Shrinking, net_at}
use Rattle.pm_simplify.specs.declared.edges.Edges.{Edges}
use Rattle.pm_simplify.specs.OnRuns.{GoesBy, IsOnRun}
use Rattle.pm_simplify.specs.Choices.{IsRight}
use Rattle.pm_simplify.specs.KnownBorder.{AreOnBorder}
use Rattle.pm_simplify.specs.AwaitedVertices.{AreAwaited}

-- The values of a run by a policy that has begun, with what is known of each edge.
pub record IsUnderWay
    (s : Shrinking) (goes_by : GoesBy) (flags : List Bool) (p : Policy) (m : Mesh) (target : ℕ)
    (log : List Collapse) (entries : Entries) (lists : Lists) : Type 0 where
  pub on : IsOnRun s goes_by flags p m log
  pub right : IsRight p m log entries lists
  pub begun : IsBegunBy p m target log

-- The tables of the edges are as large as the mesh asks, and their notes are right.
pub record AreTables (s : Shrinking) (e : Edges) : Type 0 where
  pub room : length e.queue ≡ side_count (net_at s)
  pub items : e.waiting.items ≡ side_count (net_at s)
  pub heads : 3 * length e.waiting.lists ≡ side_count (net_at s)
  pub awaited : AreAwaited (net_at s) e.waiting e.awaited
  pub noted : AreOnBorder s.surface e.border

-- The run of a mesh to a number of faces has come to the end of this log, with room for the
-- collapses that can still come.
pub record IsGoing
    (s : Shrinking) (goes_by : GoesBy) (flags : List Bool) (e : Edges) (log : Held Collapse)
    (target : ℕ) (p : Policy) (m : Mesh) : Type 0 where
  pub under_way : IsUnderWay s goes_by flags p m target log.items e.queue e.waiting
  pub tables : AreTables s e
  pub room : length m.points ≤ log.spare + length log.items + 1

-- At most so many entries are added to a log, and as many where it isn't the end.
pub record AddsUpTo (most : ℕ) (ended : Bool) (old new : List Collapse) : Type 0 where
  pub more : List Collapse
  pub whole : new ≡ old ++ more
  pub few : length more ≤ most
  pub all : ended ≡ false → length more ≡ most
