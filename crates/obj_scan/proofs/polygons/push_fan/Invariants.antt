use Rattle.std.proofs.Common.{◌≡◌, ◌++◌, ◌≤◌, length, max, take}
use Rattle.obj_scan.specs.Polygons.{fan}
use Rattle.obj_scan.proofs.polygons.push_fan.Given as goal

abbrev pub invariant-loop-i : goal.invariant-loop-i
invariant-loop-i l = record {
  some : 1 ≤ l.i;
  within : l.i ≤ max 1 (length l.rest);
  faces : l.faces.items ≡ l.fn.faces.items ++ fan l.a (take l.i l.rest);
}
