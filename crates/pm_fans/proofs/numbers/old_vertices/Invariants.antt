use Rattle.std.proofs.Common.{◌≡◌, ℕ, ◌<◌, length, slice_index}
use Rattle.pm_base.specs.Sides.{net_of}
use Rattle.pm_fans.specs.HeadKeys.{side_of_key}
use Rattle.pm_fans.proofs.numbers.old_vertices.Given as goal

abbrev pub invariant-loop-place : goal.invariant-loop-place
invariant-loop-place l = record {
  sides : length l.old.items ≡ l.place;
  each : (i : ℕ) → i < l.place
      → slice_index l.old.items i ≡ (net_of l.faces).from (side_of_key (slice_index l.keys i));
}
