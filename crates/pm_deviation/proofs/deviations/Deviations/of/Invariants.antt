use Rattle.std.proofs.Common.{◌≡◌, ℕ, ◌<◌, ◌^◌, get_or, length}
use Rattle.pm_deviation.specs.Deviations.{deviation_of}
use Rattle.pm_deviation.proofs.deviations.Deviations.of.Given as goal

abbrev pub invariant-loop-node : goal.invariant-loop-node
invariant-loop-node l = record {
  len : length l.by_node.items ≡ l.node;
  each : (v : ℕ) → v < l.node → get_or l.by_node.items v 0 ≡ deviation_of l.h v;
  small : (v : ℕ) → v < l.node → get_or l.by_node.items v 0 < 2 ^ 38;
}
