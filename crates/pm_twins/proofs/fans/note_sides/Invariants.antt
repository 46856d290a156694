use Rattle.std.proofs.Common.{◌≡◌, ℕ, ◌<◌, length, slice_index_or}
use Rattle.pm_base.specs.Sides.{net_of}
use Rattle.pm_twins.specs.Walks.{IsKnown, no_vertex}
use Rattle.pm_twins.proofs.fans.note_sides.Given as goal

abbrev pub invariant-loop-number : goal.invariant-loop-number
invariant-loop-number l = record {
  len : length l.vertices.items ≡ l.count;
  known : (v : ℕ) → v < l.count
      → IsKnown (net_of l.sides) l.number v (slice_index_or l.vertices.items v no_vertex);
}
