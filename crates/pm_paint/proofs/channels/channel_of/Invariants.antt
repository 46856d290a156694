use Rattle.std.proofs.Common.{◌≡◌, ◌+◌, ◌≤◌}
use Rattle.pm_paint.specs.Means.{AreAtMost, channel_of}
use Rattle.pm_paint.proofs.channels.channel_of.Given as goal

abbrev pub invariant-loop-vertex : goal.invariant-loop-vertex
invariant-loop-vertex l = record {
  items : l.numbers.items ≡ channel_of l.values l.channels l.channel l.vertex;
  small : AreAtMost 65535 l.numbers.items;
  spare : l.vertices ≤ l.vertex + l.numbers.spare;
}
