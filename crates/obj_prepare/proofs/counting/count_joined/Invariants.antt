use Rattle.std.proofs.Common.{◌≡◌, ◌≤◌}
use Rattle.obj_prepare.specs.Pieces.{joined_below}
use Rattle.obj_prepare.proofs.counting.count_joined.Given as goal

abbrev pub invariant-loop-v : goal.invariant-loop-v
invariant-loop-v l = record {
  value : l.n ≡ joined_below l.flags l.names l.v;
  most : l.n ≤ l.v;
}
