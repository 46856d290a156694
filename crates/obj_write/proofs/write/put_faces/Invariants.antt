use Rattle.std.proofs.Common.{◌≡◌, take}
use Rattle.std.specs.List.{flat_map}
use Rattle.pm_base.specs.Canonical.{corner_line}
use Rattle.pm_io.specs.Bytes.{GainsThrough}
use Rattle.obj_write.proofs.write.put_faces.Given as goal

abbrev pub invariant-loop-corners : goal.invariant-loop-corners
invariant-loop-corners g l = record {
  items : l.corners-items ≡ l.mesh.faces.items;
  text : GainsThrough (g.K.Sink.got l.fn.out) (g.K.Sink.got l.out) l.fn.page l.page
      (flat_map corner_line (take l.corners-index l.mesh.faces.items));
  count : g.K.Sink.faults l.out ≡ g.K.Sink.faults l.fn.out;
}
