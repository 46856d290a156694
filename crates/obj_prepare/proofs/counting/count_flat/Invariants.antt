use Rattle.std.proofs.Common.{◌≡◌, ◌≤◌, length, take}
use Rattle.std.specs.List.{filter}
use Rattle.pm_fans.specs.Kept.{is_flat as is_flat_of}
use Rattle.obj_prepare.proofs.counting.count_flat.Given as goal

abbrev pub invariant-loop-face : goal.invariant-loop-face
invariant-loop-face l = record {
  value : l.n ≡ length (filter is_flat_of (take l.face-index l.faces));
  most : l.n ≤ l.face-index;
}
