use Rattle.std.proofs.Common.{◌≡◌, ◌≤◌, ◌+◌, ◌==◌, take}
use Rattle.std.specs.List.{count_by}
use Rattle.ply_read.proofs.read.line_after.Given as goal

abbrev pub invariant-loop-b : goal.invariant-loop-b
invariant-loop-b l = record {
  few : l.line ≤ 1 + l.b-index;
  line : l.line ≡ 1 + count_by (λ b. b == 10) (take l.b-index l.before);
}
