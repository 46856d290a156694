use Rattle.std.proofs.Common.{◌≡◌, ◌≤◌}
use Rattle.obj_prepare.specs.Pieces.{set_below}
use Rattle.obj_prepare.proofs.counting.count_set.Given as goal

abbrev pub invariant-loop-v : goal.invariant-loop-v
invariant-loop-v l = record {
  value : l.n ≡ set_below l.flags l.v;
  most : l.n ≤ l.v;
}
