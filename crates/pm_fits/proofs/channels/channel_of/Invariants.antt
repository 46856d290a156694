use Rattle.std.proofs.Common.{◌≡◌, ◌+◌, ◌≤◌}
use Rattle.pm_fits.specs.Channels.{channel_of}
use Rattle.pm_fits.proofs.channels.channel_of.Given as goal

abbrev pub invariant-loop-vertex : goal.invariant-loop-vertex
invariant-loop-vertex l = record {
  items : l.numbers.items ≡ channel_of l.values l.channels l.channel l.vertex;
  spare : l.vertices ≤ l.vertex + l.numbers.spare;
}
