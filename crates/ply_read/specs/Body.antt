-- What stands after the header: the elements in the order in which it declares them, each with its
-- properties in theirs.
use Rattle.std.specs.Prelude.{ℕ, ◌+◌, ◌-◌, ◌==◌, nat_lt, min, List, [], ◌∷◌, ◌++◌, length}
use Rattle.std.specs.Prelude.{Option, Some, Result, Ok, if◌then◌else◌}
use Rattle.pm_base.specs.declared.limits.TheConstants.{MOST_FACES}
use Rattle.pm_base.specs.declared.mesh.Corners.{Corners}
use Rattle.pm_base.specs.Place.{Place, origin}
use Rattle.pm_ears.specs.declared.recut.Polygon.{Polygon}
use Rattle.obj_scan.specs.Judged.{polygons_after}
use Rattle.obj_scan.specs.Polygons.{triangles}
use Rattle.ply_read.specs.declared.declared.Encoding.{Encoding}
use Rattle.ply_read.specs.declared.declared.ScalarType.{ScalarType}
use Rattle.ply_read.specs.declared.declared.Role.{Role}
use Rattle.ply_read.specs.declared.declared.Role.TheVariants as roles
use Rattle.ply_read.specs.declared.declared.Kind.{Kind}
use Rattle.ply_read.specs.declared.declared.Kind.TheVariants as kinds
use Rattle.ply_read.specs.declared.declared.Property.{Property}
use Rattle.ply_read.specs.declared.declared.Declared.{Declared}
use Rattle.ply_read.specs.declared.declared.Declared.TheVariants as lines_of
use Rattle.ply_read.specs.declared.fault.PlyFault.TheVariants as faults
use Rattle.ply_read.specs.declared.stop.Stop.{Stop}
use Rattle.ply_read.specs.Results.{◌>>=◌}
use Rattle.ply_read.specs.Items.{coordinate, count, vertex, after_value}
use Rattle.ply_read.specs.Steps.{stopped, repeated, folded}

-- Of an element, what its properties so far say, and what stands after them.
pub record Row : Type 0 where
  pub point : Place
  pub corners : List ℕ
  pub rest : List ℕ

abbrev pub empty_row : List ℕ → Row
empty_row rest = record { point = origin; corners = []; rest = rest }

-- With a property that is passed over.
abbrev pub passed : Encoding → Property → Row → Result Row Stop
passed e p r = after_value e p.length p.item r.rest >>= λ rest. Ok (record r { rest = rest })

-- With a property of a vertex.
unfoldable pub vertex_property : Encoding → Role → Property → Row → Result Row Stop
vertex_property e roles.X p r = coordinate e p.item r.rest >>= λ c.
    Ok (record r { point = record { x = c.0; y = r.point.y; z = r.point.z }; rest = c.1 })
vertex_property e roles.Y p r = coordinate e p.item r.rest >>= λ c.
    Ok (record r { point = record { x = r.point.x; y = c.0; z = r.point.z }; rest = c.1 })
vertex_property e roles.Z p r = coordinate e p.item r.rest >>= λ c.
    Ok (record r { point = record { x = r.point.x; y = r.point.y; z = c.0 }; rest = c.1 })
vertex_property e _ p r = passed e p r

-- With a corner of a face among so many vertices, and with all that a list counts.
unfoldable pub with_corner : Encoding → ℕ → ScalarType → Row → Result Row Stop
with_corner e vertices t r = vertex e vertices t r.rest >>= λ v.
    Ok (record r { corners = r.corners ++ v.0 ∷ []; rest = v.1 })

unfoldable pub with_list : Encoding → ℕ → ScalarType → ScalarType → Row → Result Row Stop
with_list e vertices c t r = count e c r.rest >>= λ n.
    repeated (with_corner e vertices t) n.0 (record r { rest = n.1 })

-- With a property of a face.
abbrev pub face_property : Encoding → ℕ → Role → Option ScalarType → Property → Row
    → Result Row Stop
face_property e vertices roles.Corners (Some c) p r = with_list e vertices c p.item r
face_property e vertices _ _ p r = passed e p r

abbrev pub with_property : Encoding → Kind → ℕ → Property → Row → Result Row Stop
with_property e kinds.Vertex vertices p r = vertex_property e p.role p r
with_property e kinds.Face vertices p r = face_property e vertices p.role p.length p r
with_property e kinds.Other vertices p r = passed e p r

-- What the elements so far give, and what stands after them: points, triangles, where the fan of
-- each face of more than three corners stands among these, and how many faces had fewer than three.
pub record SoFar : Type 0 where
  pub points : List Place
  pub faces : List Corners
  pub polygons : List Polygon
  pub short_faces : ℕ
  pub rest : List ℕ

abbrev pub at_body : List ℕ → SoFar
at_body rest = record { points = []; faces = []; polygons = []; short_faces = 0; rest = rest }

-- One more, which is told up to the greatest number of 32 bits.
abbrev pub one_more : ℕ → ℕ
one_more n = min (n + 1) 4294967295

-- With a face. A fault stands where it ends.
unfoldable pub with_face : SoFar → List ℕ → List ℕ → Result SoFar Stop
with_face s corners rest =
    if nat_lt (length corners) 3 then
    Ok (record s { short_faces = one_more s.short_faces; rest = rest })
    else if nat_lt MOST_FACES (length s.faces + (length corners - 2)) then
    stopped faults.TooManyTriangles (length rest)
    else Ok (record s {
      faces = s.faces ++ triangles s.points corners;
      polygons = polygons_after s.polygons (length s.faces) corners;
      rest = rest;
    })

abbrev pub with_row : Kind → SoFar → Row → Result SoFar Stop
with_row kinds.Vertex s r = Ok (record s { points = s.points ++ r.point ∷ []; rest = r.rest })
with_row kinds.Face s r = with_face s r.corners r.rest
with_row kinds.Other s r = Ok (record s { rest = r.rest })

-- With an element that has these properties.
unfoldable pub with_element : Encoding → Kind → List Property → SoFar → Result SoFar Stop
with_element e kind ps s =
    folded (with_property e kind (length s.points)) ps (empty_row s.rest) >>= with_row kind s

-- With so many. Where they have no properties there is nothing of them.
abbrev pub with_elements : Encoding → Kind → ℕ → List Property → SoFar → Result SoFar Stop
with_elements e kind n ps s =
    if length ps == 0 then Ok s else repeated (with_element e kind ps) n s

-- The properties that stand first.
abbrev pub own : List Declared → List Property
own (lines_of.Property p ∷ ds) = p ∷ own ds
own _ = []

-- With all that is declared.
abbrev pub with_declared : Encoding → List Declared → SoFar → Result SoFar Stop
with_declared e [] s = Ok s
with_declared e (lines_of.Element el ∷ ds) s =
    with_elements e el.kind el.count (own ds) s >>= with_declared e ds
with_declared e (lines_of.Property p ∷ ds) s = with_declared e ds s
