use Rattle.std.proofs.Common.{◌≡◌, ◌-◌, length, false}
use Rattle.pm_io.specs.Bytes.{Loses}
use Rattle.pm_program.proofs.input.read_up_to.Given as goal

abbrev pub invariant-loop-bytes : goal.invariant-loop-bytes
invariant-loop-bytes g l = record {
  lost : Loses (g.S.Source.left l.fn.input) (g.S.Source.left l.input) l.bytes.items;
  not_ended : g.S.Source.ended l.input ≡ false;
  same : g.S.Source.faults l.input ≡ g.S.Source.faults l.fn.input;
}

abbrev pub decreases-loop-bytes : goal.decreases-loop-bytes
decreases-loop-bytes g l = l.most - length l.bytes.items
