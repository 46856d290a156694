use Rattle.std.proofs.Common.{◌≡◌, length}
use Rattle.pm_base.specs.Sides.{net_of}
use Rattle.pm_twins.proofs.ListLaws.{past, IsOn}
use Rattle.pm_twins.proofs.StampLaws.{IsStamping}
use Rattle.pm_twins.proofs.stamps.stamp_arriving.Given as goal

abbrev pub invariant-loop-at : goal.invariant-loop-at
invariant-loop-at l = record {
  len : length l.stamps.at ≡ length l.fn.stamps.at;
  on : IsOn (net_of l.faces) l.vertex l.at;
  stamping : IsStamping (net_of l.faces) l.vertex (past l.at) l.stamps;
}

abbrev pub decreases-loop-at : goal.decreases-loop-at
decreases-loop-at l = past l.at
