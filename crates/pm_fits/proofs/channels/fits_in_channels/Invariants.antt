use Rattle.std.proofs.Common.{◌≡◌, ℕ, ◌*◌, ◌%◌, ◌<◌, get_or, length}
use Rattle.std.specs.Prelude.{pos}
use Rattle.pm_forest.specs.Forest.{node_count}
use Rattle.pm_fits.specs.Channels.{fit_entry}
use Rattle.pm_fits.proofs.channels.fits_in_channels.Given as goal

abbrev pub invariant-loop-channel : goal.invariant-loop-channel
invariant-loop-channel l = record {
  len : length l.all.items ≡ node_count l.h * l.channels;
  done : (k : ℕ) → k < node_count l.h * l.channels → k % l.channels < l.channel
      → get_or l.all.items k (pos 0) ≡ fit_entry l.h l.channels l.values k;
}
