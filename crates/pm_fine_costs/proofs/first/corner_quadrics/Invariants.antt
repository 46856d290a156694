use Rattle.std.proofs.Common.{◌≡◌, ◌<◌, ◌++◌, ℕ, length, slice_index_or}
use Rattle.pm_quadric.specs.Sums.{StandsFor}
use Rattle.pm_fine.specs.Normals.{halved, doubled}
use Rattle.pm_fine_costs.specs.FineCosts.{no_quadrics}
use Rattle.pm_fine_costs.proofs.FirstLaws.{planes_below}
use Rattle.pm_fine_costs.proofs.first.corner_quadrics.Given as goal

abbrev pub invariant-loop-number : goal.invariant-loop-number
invariant-loop-number l = record {
  len : length l.quadrics.items ≡ length l.surface.points;
  brought : (v : ℕ) → v < length l.surface.points →
      StandsFor (slice_index_or l.quadrics.items v no_quadrics).brought
      (planes_below l.surface halved v l.number);
  all : (v : ℕ) → v < length l.surface.points →
      StandsFor (slice_index_or l.quadrics.items v no_quadrics).all
      (planes_below l.surface doubled v l.number ++ planes_below l.surface halved v l.number);
}
