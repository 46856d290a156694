use Rattle.std.proofs.Common.{◌≡◌, length}
use Rattle.pm_base.specs.Sides.{net_of}
use Rattle.pm_twins.specs.Stamping.{NoneStampedFrom, IsLeastRepeat, ArePaired}
use Rattle.pm_twins.proofs.twins.pair_sides.Given as goal

abbrev pub invariant-loop-vertex : goal.invariant-loop-vertex
invariant-loop-vertex l = record {
  len : length l.stamps.at ≡ l.vertices;
  none : NoneStampedFrom l.vertex l.stamps;
  repeat : IsLeastRepeat (net_of l.faces) l.vertex l.stamps.repeat;
  paired : ArePaired (net_of l.faces) l.vertex l.table;
}
