use Rattle.std.proofs.Common.{◌≡◌, [], length, ap, arith, rules}
use Rattle.std.proofs.lemmas.List.Elements.{All-nil, All-same}
use Rattle.pm_ears.specs.Recutting.{IsPolygonWithin}
use Rattle.stl_read.specs.Meaning.{triangles_of}
use Rattle.mesh_scan.proofs.StlTextLaws.{stl_within}
use Rattle.mesh_scan.proofs.whole.scan_stl.Goals as goal

pub stl_passed-requires : goal.stl_passed-requires
stl_passed-requires c =
    (stl_within c.args.bytes.now (triangles_of c.in-Ok.stl) c.in-Ok.ensures.ok).faces

pub returns-in-Ok-clause-within : goal.returns-in-Ok-clause-within
returns-in-Ok-clause-within c =
    let w = stl_within c.args.bytes.now (triangles_of c.in-Ok.stl) c.in-Ok.ensures.ok in
    let none : c.new.result.items ≡ [] = search rules in
    let few : length c.new.result.items ≡ 0 = ap length none in
    record {
      points = w.points;
      inexact = w.inexact;
      faces = w.faces;
      corners = w.corners;
      polygons = All-same (IsPolygonWithin (length c.in-Ok.stl.faces.items)) c.new.result.items []
          none (All-nil _);
      polygons_few = omega (arith, few);
    }
