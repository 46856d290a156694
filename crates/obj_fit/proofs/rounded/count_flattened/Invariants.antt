use Rattle.std.proofs.Common.{◌≡◌, ◌≤◌, take}
use Rattle.obj_fit.specs.Fine.{flattened_count}
use Rattle.obj_fit.proofs.rounded.count_flattened.Given as goal

abbrev pub invariant-loop-face : goal.invariant-loop-face
invariant-loop-face l = record {
  value : l.n ≡ flattened_count l.fine l.places (take l.face-index l.faces);
  most : l.n ≤ l.face-index;
}
