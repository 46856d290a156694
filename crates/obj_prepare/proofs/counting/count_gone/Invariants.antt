use Rattle.std.proofs.Common.{◌≡◌, ◌≤◌}
use Rattle.obj_prepare.specs.Pieces.{gone_below}
use Rattle.obj_prepare.proofs.counting.count_gone.Given as goal

abbrev pub invariant-loop-v : goal.invariant-loop-v
invariant-loop-v l = record {
  value : l.n ≡ gone_below l.before l.names l.after l.v;
  most : l.n ≤ l.v;
}
