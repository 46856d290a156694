use Rattle.std.proofs.Common.{◌≡◌, ◌≤◌, take}
use Rattle.obj_fit.specs.Thin.{thin_count}
use Rattle.obj_fit.proofs.thin.count_thin.Given as goal

abbrev pub invariant-loop-face : goal.invariant-loop-face
invariant-loop-face l = record {
  value : l.n ≡ thin_count l.points (take l.face-index l.faces);
  most : l.n ≤ l.face-index;
}
