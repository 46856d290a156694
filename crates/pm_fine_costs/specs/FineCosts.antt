-- The quadrics of the fine policy.
use Rattle.std.specs.Prelude.{◌≡◌, ℕ, ◌+◌, ◌≤◌, true, List, length}
use Rattle.pm_base.specs.declared.log.Collapse.{Collapse}
use Rattle.pm_base.specs.Meshes.{Mesh}
use Rattle.pm_base.specs.Place.{Place}
use Rattle.pm_quadric.specs.Sums.{StandsFor, zero_sums, plus_sums, sums_of}
use Rattle.pm_runs.specs.Surfaces.{next_vertex, is_live}
use Rattle.pm_runs.specs.Counts.{live_count_of}
use Rattle.pm_runs.specs.Runs.{surface_after}
use Rattle.pm_fine.specs.FinePlanes.{point_planes}
use Rattle.pm_policies.specs.Policies.{Policy, brought_after, planes_by}
use Rattle.pm_slots.specs.Slots.{Slotted, item_at, HaveOwnSlots}
use Rattle.pm_fine_costs.specs.declared.pair.BothQuadrics.{BothQuadrics}
use Rattle.pm_fine_costs.specs.FinePolicy.{fine_keeping}

-- The quadrics of a vertex that brings and takes no plane.
abbrev pub no_quadrics : BothQuadrics
no_quadrics = record { brought = zero_sums; all = zero_sums }

-- With the planes of a point more.
abbrev pub with_point : BothQuadrics → Place → BothQuadrics
with_point q p = record {
  brought = plus_sums q.brought (sums_of (point_planes p));
  all = plus_sums q.all (sums_of (point_planes p));
}

-- What a vertex has.
abbrev pub quadrics_at : Slotted BothQuadrics → ℕ → BothQuadrics
quadrics_at t v = item_at t v no_quadrics

-- The policy is a fine one, and the two quadrics of each live vertex, in a slot of its own, stand
-- for the planes that it was brought and for all that it has. There is a slot for each vertex that
-- can still be made, since a collapse makes one of two.
pub record GoesByFine
    (t : Slotted BothQuadrics) (p : Policy) (m : Mesh) (log : List Collapse) : Type 0 where
  pub policy : p ≡ fine_keeping p.kept
  pub brought : (v : ℕ) → is_live (surface_after m log) v ≡ true →
      StandsFor (quadrics_at t v).brought (brought_after p m log v)
  pub all : (v : ℕ) → is_live (surface_after m log) v ≡ true →
      StandsFor (quadrics_at t v).all (planes_by p m log v)
  pub own : HaveOwnSlots (surface_after m log) t.slots
  pub room : next_vertex (surface_after m log) + live_count_of (surface_after m log) ≤
      length t.slots
