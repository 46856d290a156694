-- The properties that the element that is being declared has.
use Rattle.std.specs.Prelude.{Bool, true, false, not, ◌&&◌, ◌||◌, Option, Some, None}
use Rattle.std.specs.Prelude.{if◌then◌else◌}
use Rattle.ply_read.specs.declared.declared.ScalarType.{ScalarType}
use Rattle.ply_read.specs.declared.declared.Role.{Role}
use Rattle.ply_read.specs.declared.declared.Role.TheVariants as roles
use Rattle.ply_read.specs.declared.declared.Kind.{Kind}
use Rattle.ply_read.specs.declared.declared.Kind.TheVariants as kinds
use Rattle.ply_read.specs.declared.declared.Property.{Property}
use Rattle.ply_read.specs.declared.opening.Axes.{Axes}
use Rattle.ply_read.specs.declared.opening.Opening.{Opening}
use Rattle.ply_read.specs.declared.opening.Opening.TheVariants as openings
use Rattle.ply_read.specs.Names.{is_whole_type}

-- None of them yet.
abbrev pub opening_of : Kind → Opening
opening_of kinds.Vertex = openings.Vertex (record { x = false; y = false; z = false })
opening_of kinds.Face = openings.Face false
opening_of kinds.Other = openings.Other

abbrev pub is_list : Option ScalarType → Bool
is_list (Some count) = true
is_list None = false

-- With one that is a coordinate, which stands there once and is no list, or isn't one.
unfoldable pub with_axis : Axes → Role → Bool → Option Axes
with_axis a roles.X list = if a.x || list then None else Some (record a { x = true })
with_axis a roles.Y list = if a.y || list then None else Some (record a { y = true })
with_axis a roles.Z list = if a.z || list then None else Some (record a { z = true })
with_axis a _ list = Some a

-- With one that is the corners, which stand there once and are a list of whole numbers, or isn't.
unfoldable pub with_corners : Bool → Role → Bool → Option Bool
with_corners corners roles.Corners fits = if corners || not fits then None else Some true
with_corners corners _ fits = Some corners

abbrev pub vertex_opening : Option Axes → Option Opening
vertex_opening (Some a) = Some (openings.Vertex a)
vertex_opening None = None

abbrev pub face_opening : Option Bool → Option Opening
face_opening (Some corners) = Some (openings.Face corners)
face_opening None = None

-- With a property, where it may stand there.
abbrev pub with_property : Opening → Property → Option Opening
with_property openings.Nothing p = None
with_property (openings.Vertex a) p = vertex_opening (with_axis a p.role (is_list p.length))
with_property (openings.Face corners) p =
    face_opening (with_corners corners p.role (is_list p.length && is_whole_type p.item))
with_property openings.Other p = Some openings.Other

-- It has those that it needs.
abbrev pub is_complete : Opening → Bool
is_complete (openings.Vertex a) = a.x && a.y && a.z
is_complete (openings.Face corners) = corners
is_complete _ = true
