-- What a file gives, and what a failure says of it.
use Rattle.std.specs.Prelude.{◌≡◌, Result, Err}
use Rattle.stl_read.specs.declared.vertices.StlTriangles.{StlTriangles}
use Rattle.stl_read.specs.declared.ascii.TextReader.{TextReader}
use Rattle.stl_read.specs.Ascii.{SoFar}
use Rattle.stl_read.specs.Vertices.{Triangles}
use Rattle.stl_read.specs.declared.fault.StlFail.{StlFail}
use Rattle.stl_read.specs.declared.fault.StlFail.TheVariants as fails
use Rattle.stl_read.specs.declared.fault.Refused.{Refused}

-- What is held in memory.
abbrev pub triangles_of : StlTriangles → Triangles
triangles_of t = record {
  points = t.points.items;
  faces = t.faces.items;
  attributes = t.attributes;
}

-- A text has no attributes.
abbrev pub so_far_of : TextReader → SoFar
so_far_of r = record {
  stage = r.stage;
  triangles = record {
    points = r.vertices.points.items;
    faces = r.faces.items;
    attributes = 0;
  };
}

-- A fault is the one by which the reading ends. Memory may always be wanting.
abbrev pub Explains : {A : Type 0} → Result A Refused → StlFail → Type 0
Explains meaning (fails.Fault why) = meaning ≡ Err why
Explains meaning fails.OutOfMemory = Unit {0}
