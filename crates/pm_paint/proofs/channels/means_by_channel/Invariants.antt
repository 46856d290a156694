use Rattle.std.proofs.Common.{◌≡◌, ℕ, ◌*◌, ◌%◌, ◌<◌, get_or, length}
use Rattle.pm_forest.specs.Forest.{node_count}
use Rattle.pm_paint.specs.Means.{mean_at}
use Rattle.pm_paint.proofs.channels.means_by_channel.Given as goal

abbrev pub invariant-loop-channel : goal.invariant-loop-channel
invariant-loop-channel l = record {
  len : length l.all.items ≡ node_count l.h * l.channels;
  done : (k : ℕ) → k < node_count l.h * l.channels → k % l.channels < l.channel
      → get_or l.all.items k 0 ≡ mean_at l.h l.channels l.values k;
}
