-- What is held in memory of what stands after a header, and what a failure says of it.
use Rattle.std.specs.Prelude.{◌≡◌, ℕ, List, Result, Err}
use Rattle.ply_read.specs.declared.mesh.MeshReader.{MeshReader}
use Rattle.ply_read.specs.declared.row.RowReader.{RowReader}
use Rattle.ply_read.specs.declared.stop.BodyFail.{BodyFail}
use Rattle.ply_read.specs.declared.stop.BodyFail.TheVariants as fails
use Rattle.ply_read.specs.declared.stop.Stop.{Stop}
use Rattle.ply_read.specs.Body.{Row, SoFar}

abbrev pub row_in : RowReader → List ℕ → Row
row_in r rest = record { point = r.point; corners = r.corners.items; rest = rest }

abbrev pub mesh_in : MeshReader → List ℕ → SoFar
mesh_in m rest = record {
  points = m.points.items;
  faces = m.faces.items;
  polygons = m.polygons.items;
  short_faces = m.short_faces;
  rest = rest;
}

-- A fault is the one by which the reading stops. Memory may always be wanting.
abbrev pub Tells : {A : Type 0} → Result A Stop → BodyFail → Type 0
Tells meaning (fails.Stop why) = meaning ≡ Err why
Tells meaning fails.OutOfMemory = Unit {0}
