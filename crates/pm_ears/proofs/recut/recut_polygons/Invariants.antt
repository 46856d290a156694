use Rattle.std.proofs.Common.{◌≡◌, ◌≤◌, length, take}
use Rattle.pm_ears.specs.Recutting.{recut_after, overlapping_count}
use Rattle.pm_ears.proofs.recut.recut_polygons.Given as goal

abbrev pub invariant-loop-p : goal.invariant-loop-p
invariant-loop-p l = record {
  value : l.cut.items ≡ recut_after l.places l.faces l.faces (take l.p-index l.polygons);
  long : length l.cut.items ≡ length l.faces;
  told : l.overlapping ≡ overlapping_count l.places (take l.p-index l.polygons) l.faces;
  few : l.overlapping ≤ l.p-index;
}
