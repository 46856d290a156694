use Rattle.ply_read.specs.Meaning.{ply_in}
use Rattle.mesh_scan.proofs.PlyLaws.{ply_within}
use Rattle.mesh_scan.proofs.whole.scan_ply.Goals as goal

pub returns-in-Ok-clause-within : goal.returns-in-Ok-clause-within
returns-in-Ok-clause-within c =
    let w = ply_within c.args.bytes.now (ply_in c.in-Ok.ply) c.in-Ok.ensures.ok in
    record {
      points = w.points;
      inexact = w.inexact;
      faces = w.faces;
      corners = w.corners;
      polygons = w.polygons;
      polygons_few = w.polygons_few;
    }
