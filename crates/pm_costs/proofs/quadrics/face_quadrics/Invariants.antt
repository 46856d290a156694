use Rattle.std.proofs.Common.{◌≡◌, ◌<◌, ℕ, length, take, slice_index_or}
use Rattle.pm_quadric.specs.Sums.{sums_of, zero_sums}
use Rattle.pm_runs.specs.Planes.{planes_at}
use Rattle.pm_costs.specs.Slots.{mesh_with}
use Rattle.pm_costs.proofs.quadrics.face_quadrics.Given as goal

abbrev pub invariant-loop-face : goal.invariant-loop-face
invariant-loop-face l = record {
  len : length l.quadrics.items ≡ length l.points;
  each : (v : ℕ) → v < length l.points → slice_index_or l.quadrics.items v zero_sums
      ≡ sums_of (planes_at (mesh_with l.points (take l.face l.faces)) v);
}
