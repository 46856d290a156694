use Rattle.pm_base.specs.Sides.{net_of}
use Rattle.pm_twins.proofs.ListLaws.{past, IsOn}
use Rattle.pm_twins.proofs.PairLaws.{IsPairing}
use Rattle.pm_twins.proofs.stamps.pair_leaving.Given as goal

abbrev pub invariant-loop-at : goal.invariant-loop-at
invariant-loop-at l = record {
  on : IsOn (net_of l.faces) l.vertex l.at;
  pairing : IsPairing (net_of l.faces) l.vertex (past l.at) l.table;
}

abbrev pub decreases-loop-at : goal.decreases-loop-at
decreases-loop-at l = past l.at
