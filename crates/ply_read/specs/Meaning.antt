-- What is held in memory, and what a failure says of a file.
use Rattle.std.specs.Prelude.{◌≡◌, ℕ, List, Result, Err}
use Rattle.ply_read.specs.declared.declared.PlyHeader.{PlyHeader}
use Rattle.ply_read.specs.declared.fault.PlyFail.{PlyFail}
use Rattle.ply_read.specs.declared.fault.PlyFail.TheVariants as fails
use Rattle.ply_read.specs.declared.fault.Refused.{Refused}
use Rattle.ply_read.specs.declared.header.HeaderReader.{HeaderReader}
use Rattle.ply_read.specs.declared.read.Ply.{Ply}
use Rattle.ply_read.specs.Header.{SoFar, Header}
use Rattle.ply_read.specs.Ply.{Triangles}

abbrev pub so_far_of : HeaderReader → SoFar
so_far_of r = record {
  encoding = r.encoding;
  declared = r.declared.items;
  opening = r.opening;
  vertices = r.vertices;
  faces = r.faces;
}

abbrev pub header_in : PlyHeader → List ℕ → Header
header_in h body = record { encoding = h.encoding; declared = h.declared.items; body = body }

abbrev pub ply_in : Ply → Triangles
ply_in p = record {
  points = p.points.items;
  faces = p.faces.items;
  polygons = p.polygons.items;
  short_faces = p.short_faces;
  losses = p.losses;
  trailing_bytes = p.trailing_bytes;
}

-- A fault is the one by which the reading ends. Memory may always be wanting.
abbrev pub Explains : {A : Type 0} → Result A Refused → PlyFail → Type 0
Explains meaning (fails.Fault why) = meaning ≡ Err why
Explains meaning fails.OutOfMemory = Unit {0}
