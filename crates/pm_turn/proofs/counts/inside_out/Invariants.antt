use Rattle.std.proofs.Common.{◌≡◌, slice_index_or}
use Rattle.std.specs.Prelude.{◌==◌}
use Rattle.pm_base.specs.Counts.{count}
use Rattle.pm_turn.specs.Turning.{flag_of}
use Rattle.pm_turn.specs.Sums.{root_at, no_sums}
use Rattle.pm_turn.specs.Told.{is_inward}
use Rattle.pm_turn.proofs.counts.inside_out.Given as goal

abbrev pub invariant-loop-face : goal.invariant-loop-face
invariant-loop-face l =
    l.inward ≡ count
    (λ r. is_inward (root_at l.roots r == r) (flag_of l.odd r) (slice_index_or l.sums r no_sums))
    l.face
