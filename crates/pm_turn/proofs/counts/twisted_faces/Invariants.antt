use Rattle.std.proofs.Common.{◌≡◌}
use Rattle.pm_base.specs.Counts.{count}
use Rattle.pm_turn.specs.Turning.{flag_of}
use Rattle.pm_turn.specs.Sums.{root_at}
use Rattle.pm_turn.proofs.counts.twisted_faces.Given as goal

abbrev pub invariant-loop-face : goal.invariant-loop-face
invariant-loop-face l = l.twisted ≡ count (λ f. flag_of l.odd (root_at l.roots f)) l.face
