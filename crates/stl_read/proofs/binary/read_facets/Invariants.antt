use Rattle.std.proofs.Common.{◌≡◌, ◌+◌, ◌-◌, ◌*◌, ◌≤◌, length}
use Rattle.pm_base.specs.declared.limits.TheConstants.{MOST_VERTICES}
use Rattle.stl_read.specs.Binary.{with_facets}
use Rattle.stl_read.specs.Numbering.{AreNumbered}
use Rattle.stl_read.specs.Recent.{AreKnown}
use Rattle.stl_read.specs.Vertices.{no_triangles}
use Rattle.stl_read.proofs.binary.read_facets.Given as goal

abbrev pub invariant-loop-i : goal.invariant-loop-i
invariant-loop-i l = record {
  numbered : AreNumbered l.reader.vertices;
  few : length l.reader.vertices.points.items ≤ MOST_VERTICES;
  known : AreKnown l.reader.vertices.points.items l.reader.recent.slots.items;
  marked : l.attributes ≤ l.i;
  rest :
      with_facets l.bytes
      (record {
        points = l.reader.vertices.points.items;
        faces = l.faces.items;
        attributes = l.attributes;
      })
      (84 + 50 * l.i) (l.count - l.i) ≡ with_facets l.bytes no_triangles 84 l.count;
}
