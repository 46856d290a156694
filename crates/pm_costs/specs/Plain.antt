-- The quadrics of the run whose planes are those of the faces and whose places are ends and
-- midpoints.
use Rattle.std.specs.Prelude.{◌≡◌, ℕ, ◌+◌, ◌≤◌, true, List, length}
use Rattle.pm_base.specs.declared.log.Collapse.{Collapse}
use Rattle.pm_base.specs.Meshes.{Mesh}
use Rattle.pm_quadric.specs.Sums.{StandsFor}
use Rattle.pm_runs.specs.Surfaces.{next_vertex, is_live}
use Rattle.pm_runs.specs.Counts.{live_count_of}
use Rattle.pm_runs.specs.Runs.{surface_after}
use Rattle.pm_policies.specs.Policies.{Policy, planes_by, plain_keeping}
use Rattle.pm_costs.specs.Slots.{Quadrics, quadric_at, HaveOwnSlots}

-- The policy is a plain one, and the quadric of each live vertex, in a slot of its own, stands for
-- the planes that the policy gives it. A slot is left for each vertex that can still be made: a
-- collapse makes one of two.
pub record GoesByPlain (t : Quadrics) (p : Policy) (m : Mesh) (log : List Collapse) : Type 0 where
  pub policy : p ≡ plain_keeping p.kept
  pub each : (v : ℕ) → is_live (surface_after m log) v ≡ true →
      StandsFor (quadric_at t v) (planes_by p m log v)
  pub own : HaveOwnSlots (surface_after m log) t.slots
  pub room : next_vertex (surface_after m log) + live_count_of (surface_after m log) ≤
      length t.slots
