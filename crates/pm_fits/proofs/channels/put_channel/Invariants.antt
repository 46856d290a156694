use Rattle.std.proofs.Common.{◌≡◌, ◌≢◌, ℕ, ◌/◌, ◌%◌, ◌<◌, get_or, length}
use Rattle.std.specs.Prelude.{pos}
use Rattle.pm_fits.proofs.channels.put_channel.Given as goal

abbrev pub invariant-loop-node : goal.invariant-loop-node
invariant-loop-node l = record {
  len : length l.all.items ≡ length l.fn.all.items;
  here : (k : ℕ) → k / l.channels < l.node → k % l.channels ≡ l.channel
      → get_or l.all.items k (pos 0) ≡ get_or l.fits (k / l.channels) (pos 0);
  others : (k : ℕ) → k % l.channels ≢ l.channel
      → get_or l.all.items k (pos 0) ≡ get_or l.fn.all.items k (pos 0);
}
