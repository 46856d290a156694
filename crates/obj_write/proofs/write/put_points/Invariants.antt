use Rattle.std.proofs.Common.{◌≡◌, take}
use Rattle.std.specs.List.{flat_map}
use Rattle.pm_base.specs.Canonical.{point_line}
use Rattle.pm_io.specs.Bytes.{GainsThrough}
use Rattle.obj_write.proofs.write.put_points.Given as goal

abbrev pub invariant-loop-point : goal.invariant-loop-point
invariant-loop-point g l = record {
  items : l.point-items ≡ l.mesh.points.items;
  text : GainsThrough (g.K.Sink.got l.fn.out) (g.K.Sink.got l.out) l.fn.page l.page
      (flat_map (point_line l.digits) (take l.point-index l.mesh.points.items));
  count : g.K.Sink.faults l.out ≡ g.K.Sink.faults l.fn.out;
}
