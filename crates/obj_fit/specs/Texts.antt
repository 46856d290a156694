-- What is written of a mesh that was made, and what is said of it.
use Rattle.std.specs.Prelude.{ℕ, ◌+◌, ◌==◌, ◌&&◌, pos, List, ◌++◌, Option, Some, None}
use Rattle.std.specs.Prelude.{codes, if◌then◌else◌}
use Rattle.std.specs.Fmt.{decimal}
use Rattle.pm_base.specs.Place.{Place}
use Rattle.pm_base.specs.Meshes.{Mesh}
use Rattle.pm_base.specs.Canonical.{coordinate_text, canonical_text}
use Rattle.pm_turn.specs.declared.counts.TurnCounts.{TurnCounts}
use Rattle.obj_prepare.specs.declared.notes.Notes.{Notes}
use Rattle.obj_prepare.specs.declared.placing.Fit.{Fit}
use Rattle.obj_prepare.specs.declared.placing.Fit.TheVariants as fits
use Rattle.obj_fit.specs.declared.counts.Counts.{Counts}
use Rattle.obj_fit.specs.declared.rounded.RoundedFaces.{RoundedFaces}
use Rattle.obj_prepare.specs.declared.longest.Axis.{Axis}
use Rattle.obj_prepare.specs.declared.longest.Axis.TheVariants as axes
use Rattle.obj_prepare.specs.declared.longest.LongestAxis.{LongestAxis}
use Rattle.obj_scan.specs.declared.passed.PassedOver.{PassedOver}
use Rattle.obj_prepare.specs.Back.{WayBack, way_back_of, within_of}

-- The extent of a box, and the steps that it is divided into.
unfoldable pub scale_text : WayBack → List ℕ
scale_text way = codes "coordinate = " ++ coordinate_text 18 (pos way.extent) ++ codes " / "
    ++ decimal way.steps ++ codes " * place + ("

-- A middle, axis by axis.
unfoldable pub middle_text : Place → List ℕ
middle_text m = coordinate_text 19 m.x ++ codes " " ++ coordinate_text 19 m.y ++ codes " "
    ++ coordinate_text 19 m.z

-- `coordinate = E / D * place + (X Y Z)`: how places lead back to coordinates.
unfoldable pub way_text : WayBack → List ℕ
way_text way = scale_text way ++ middle_text way.middle ++ codes ")\n"

-- The first line of the output.
abbrev pub head_line : Fit → List ℕ
head_line fits.Standing = codes "# coordinates as they stood\n"
head_line (fits.Scaled size b) = codes "# " ++ way_text (way_back_of size b)

-- The output: the line that tells how places lead back, and the canonical text of the mesh.
abbrev pub output_text : Fit → Mesh → List ℕ
output_text fit m = head_line fit ++ canonical_text 0 m

-- What one thing is called, and what more of them are.
abbrev pub named : List ℕ → List ℕ → ℕ → List ℕ
named one many n = if n == 1 then one else many

-- `N ONE` of one thing, and else `N MANY`.
unfoldable pub counted : List ℕ → List ℕ → ℕ → List ℕ
counted one many n = decimal n ++ codes " " ++ named one many n

-- `prepare: N THINGS WHAT`, where N isn't 0.
unfoldable pub note_line : List ℕ → List ℕ → List ℕ → ℕ → List ℕ
note_line one many what n = if n == 0 then codes "" else codes "prepare: " ++ counted one many n
    ++ codes " " ++ what ++ codes "\n"

-- How near places are to the coordinates.
unfoldable pub within_text : WayBack → List ℕ
within_text way = codes "prepare: positions are within " ++ coordinate_text 18 (pos (within_of way))
    ++ codes " of the coordinates\n"

-- How places lead back, where they were scaled.
abbrev pub last_note : Fit → List ℕ
last_note fits.Standing = codes ""
last_note (fits.Scaled size b) = codes "prepare: " ++ way_text (way_back_of size b)
    ++ within_text (way_back_of size b)

-- `WHAT N in, M out`
unfoldable pub in_out_text : List ℕ → ℕ → ℕ → List ℕ
in_out_text what n m = what ++ decimal n ++ codes " in, " ++ decimal m ++ codes " out"

-- How many vertices and triangles there were and came out.
unfoldable pub account_text : Counts → List ℕ
account_text c = in_out_text (codes "prepare: vertices ") c.vertices_in c.vertices_out
    ++ in_out_text (codes "; triangles ") c.triangles_in c.triangles_out ++ codes "\n"

-- The same, where as many didn't come out.
unfoldable pub account_line : Counts → List ℕ
account_line c =
    if c.vertices_in == c.vertices_out && c.triangles_in == c.triangles_out then codes ""
    else account_text c

-- `, N of them by rounding`, where N isn't 0.
unfoldable pub rounding_text : ℕ → List ℕ
rounding_text n =
    if n == 0 then codes "" else codes ", " ++ decimal n ++ codes " of them by rounding"

-- How many vertices were welded, and how many of these by rounding.
unfoldable pub welded_line : ℕ → ℕ → List ℕ
welded_line welded rounded =
    if welded == 0 then codes ""
    else codes "prepare: " ++ counted (codes "vertex welded") (codes "vertices welded") welded
    ++ rounding_text rounded ++ codes "\n"

-- How many lines were passed over that begin otherwise, and the first of them.
unfoldable pub others_line : ℕ → ℕ → List ℕ
others_line n first =
    if n == 0 then codes ""
    else codes "prepare: " ++ counted (codes "unknown line") (codes "unknown lines") n
    ++ codes " ignored, the first is line " ++ decimal first ++ codes "\n"

-- What was passed over: what stands after places, and what goes with faces;
unfoldable pub shading_notes : PassedOver → List ℕ
shading_notes p =
    note_line (codes "weight") (codes "weights") (codes "ignored") p.weights
    ++ note_line (codes "vertex colour") (codes "vertex colours") (codes "ignored") p.colours
    ++ note_line (codes "texture coordinate") (codes "texture coordinates") (codes "ignored")
    p.textures
    ++ note_line (codes "normal") (codes "normals") (codes "ignored") p.normals
    ++ note_line (codes "group line") (codes "group lines") (codes "ignored") p.groups

-- what is shown beside faces, or how; and all other lines.
unfoldable pub beside_notes : PassedOver → List ℕ
beside_notes p =
    note_line (codes "material line") (codes "material lines") (codes "ignored") p.materials
    ++ note_line (codes "line or point") (codes "lines and points") (codes "ignored") p.elements
    ++ note_line (codes "curve or surface") (codes "curves and surfaces") (codes "ignored") p.curves
    ++ note_line (codes "call") (codes "calls") (codes "ignored") p.calls
    ++ others_line p.others p.first_other

-- What is passed over of STL and PLY files alone.
unfoldable pub file_notes : PassedOver → List ℕ
file_notes p =
    note_line (codes "facet attribute") (codes "facet attributes") (codes "ignored") p.attributes
    ++ note_line (codes "other property") (codes "other properties") (codes "ignored") p.properties
    ++ note_line (codes "other element") (codes "other elements") (codes "ignored")
    p.other_elements

unfoldable pub passed_notes : PassedOver → List ℕ
passed_notes p = shading_notes p ++ beside_notes p ++ file_notes p

-- What rounding to the grid did to triangles.
unfoldable pub rounded_notes : RoundedFaces → List ℕ
rounded_notes r =
    note_line (codes "face") (codes "faces") (codes "made degenerate by rounding") r.flattened
    ++ note_line (codes "face") (codes "faces") (codes "flipped by rounding") r.overturned

-- How many polygons were cut into triangles, and of how many these overlap.
unfoldable pub polygon_notes : ℕ → ℕ → List ℕ
polygon_notes cut overlapping =
    note_line (codes "polygon") (codes "polygons") (codes "triangulated") cut
    ++ note_line (codes "polygon") (codes "polygons") (codes "triangulated with overlaps")
    overlapping

-- How many vertices were rounded as they were read.
unfoldable pub inexact_note : ℕ → List ℕ
inexact_note n =
    note_line (codes "vertex") (codes "vertices") (codes "rounded at the 18th decimal") n

-- What is said of polygons, of vertices that were rounded as they were read, of triangles that
-- rounding to the grid made flat or turned over, and of what was passed over.
unfoldable pub line_notes : Counts → List ℕ
line_notes c = polygon_notes c.polygons c.overlapping
    ++ inexact_note c.inexact
    ++ rounded_notes c.rounded
    ++ passed_notes c.passed

-- Which faces were left out: those that name a vertex twice, that became edges by welding, and
-- that stand twice.
unfoldable pub dropped_notes : Counts → Notes → List ℕ
dropped_notes c notes =
    note_line (codes "degenerate face") (codes "degenerate faces")
    (codes "dropped: a vertex is named twice") c.twice
    ++ note_line (codes "degenerate face") (codes "degenerate faces")
    (codes "dropped: collapsed to an edge") notes.flat
    ++ note_line (codes "duplicate face") (codes "duplicate faces") (codes "dropped") notes.double

-- What is said of the faces and places of the input, of which so many were welded by rounding.
unfoldable pub face_notes : Counts → Notes → ℕ → List ℕ
face_notes c notes rounded =
    line_notes c ++ welded_line notes.joined rounded ++ dropped_notes c notes

-- How many closed surfaces look inward.
unfoldable pub inward_note : ℕ → List ℕ
inward_note n =
    note_line (codes "closed surface") (codes "closed surfaces")
    (codes "facing inward or around a void") n

-- What is said of turning.
unfoldable pub turn_notes : TurnCounts → List ℕ
turn_notes turns =
    note_line (codes "face") (codes "faces") (codes "flipped for consistent winding") turns.turned
    ++ note_line (codes "face") (codes "faces") (codes "in non-orientable patches") turns.twisted
    ++ note_line (codes "non-manifold edge") (codes "non-manifold edges")
    (codes "of three faces or more") turns.crowded
    ++ inward_note turns.inside_out

-- That what was split off comes apart in fronts, and what keeps it together along borders.
unfoldable pub apart_line : ℕ → List ℕ
apart_line split =
    if split == 0 then codes ""
    else codes "prepare: what was cut can come apart at coarser levels: "
    ++ codes "simplify --keep-border holds the border\n"

-- What is said of what was cut and left out.
unfoldable pub vertex_notes : Notes → List ℕ
vertex_notes notes =
    note_line (codes "edge") (codes "edges") (codes "cut open") notes.cut
    ++ note_line (codes "vertex") (codes "vertices") (codes "duplicated at cuts")
    notes.split
    ++ apart_line notes.split
    ++ note_line (codes "isolated vertex") (codes "isolated vertices") (codes "dropped")
    notes.unnamed
    ++ note_line (codes "vertex") (codes "vertices") (codes "dropped: no face is left") notes.gone

-- How many faces have no area.
unfoldable pub thin_note : ℕ → List ℕ
thin_note n = note_line (codes "face") (codes "faces") (codes "of zero area") n

abbrev pub axis_letter : Axis → List ℕ
axis_letter axes.X = codes "x"
axis_letter axes.Y = codes "y"
axis_letter axes.Z = codes "z"

-- Which axis is the longest, and from where to where it goes. Vertices are counted from 1.
unfoldable pub longest_text : LongestAxis → List ℕ
longest_text l =
    codes "the longest axis, " ++ axis_letter l.axis ++ codes ", goes from vertex "
    ++ decimal (l.low + 1) ++ codes " to vertex " ++ decimal (l.high + 1) ++ codes "\n"

-- That many triangles collapsed to edges, and what the box stretches between.
unfoldable pub warning_line : Option LongestAxis → List ℕ
warning_line None = codes ""
warning_line (Some l) = codes "prepare: a tenth of the triangles or more collapsed to edges: "
    ++ longest_text l

-- What is said of the work: how much came out, a line for each kind of change that was made, how
-- places lead back, and the warning, if any.
unfoldable pub notes_text : Counts → Notes → ℕ → Fit → Option LongestAxis → List ℕ
notes_text c notes rounded fit warning =
    account_line c ++ face_notes c notes rounded ++ turn_notes notes.turns ++ vertex_notes notes
    ++ thin_note c.thin ++ last_note fit ++ warning_line warning
