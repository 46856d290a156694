use Rattle.std.proofs.Common.{◌≡◌, ◌≤◌, ◌-◌, length, false}
use Rattle.std.specs.Io.KnownBytes.{prepend_known}
use Rattle.pm_io.specs.Bytes.{Loses}
use Rattle.mesh_scan.proofs.gather.gather.Given as goal

abbrev pub invariant-loop-piece : goal.invariant-loop-piece
invariant-loop-piece g l = record {
  took : Loses (prepend_known l.fn.bytes.items (g.S.Source.left l.fn.source))
      (g.S.Source.left l.source) l.bytes.items;
  within : length l.bytes.items ≤ l.most;
  not_ended : g.S.Source.ended l.source ≡ false;
  count : g.S.Source.faults l.source ≡ g.S.Source.faults l.fn.source;
}

abbrev pub decreases-loop-piece : goal.decreases-loop-piece
decreases-loop-piece g l = l.most - length l.bytes.items
