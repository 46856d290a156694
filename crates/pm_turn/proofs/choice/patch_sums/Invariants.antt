use Rattle.std.proofs.Common.{ℕ, slice_index_or}
use Rattle.pm_base.specs.Sides.{net_of}
use Rattle.pm_turn.specs.Sums.{no_sums, IsSmall, AreSums}
use Rattle.pm_turn.proofs.choice.patch_sums.Given as goal

abbrev pub invariant-loop-face : goal.invariant-loop-face
invariant-loop-face l = record {
  sums : AreSums (net_of l.faces) l.places l.mates l.roots l.face l.sums.items;
  small : (r : ℕ) → IsSmall l.face (slice_index_or l.sums.items r no_sums);
}
