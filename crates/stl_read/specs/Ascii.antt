-- A text: solids one after the other, each of facets of three vertices. Words are in letters of
-- either case, with blanks between, and a line has as many as one step of the form. What follows
-- `solid`, `facet` and `endsolid` in their lines is passed over.
use Rattle.std.specs.Prelude.{ℕ, ◌+◌, ◌-◌, ◌==◌, Bool, false, ◌&&◌, List, [], ◌∷◌, ◌++◌, nat_le}
use Rattle.std.specs.Prelude.{length, take}
use Rattle.std.specs.Prelude.{Option, Some, None, ℤ, Result, Ok, Err, codes, if◌then◌else◌}
use Rattle.std.specs.Str.{str_eq_ignore_ascii_case}
use Rattle.pm_base.specs.declared.limits.TheConstants.{MOST_FACES}
use Rattle.pm_base.specs.declared.mesh.Corners.{Corners}
use Rattle.pm_base.specs.Place.{Place}
use Rattle.pm_io.specs.Bytes.{onto}
use Rattle.obj_lines.specs.Text.{ends_with}
use Rattle.obj_read.specs.declared.fault.ObjFault.{ObjFault}
use Rattle.obj_read.specs.declared.fault.ObjFault.TheVariants as decimals
use Rattle.obj_read.specs.Fields.{fields}
use Rattle.obj_prepare.specs.Numbers.{decimal_coordinate}
use Rattle.stl_read.specs.declared.fault.StlFault.TheVariants as faults
use Rattle.stl_read.specs.declared.fault.Refused.{Refused}
use Rattle.stl_read.specs.declared.stage.Stage.{Stage}
use Rattle.stl_read.specs.declared.stage.Stage.TheVariants as stages
use Rattle.stl_read.specs.Refusals.{◌>>=◌, refused}
use Rattle.stl_read.specs.Vertices.{Triangles, Corner, corner_of, no_triangles}

-- The lines of the bytes, without their LF.
abbrev pub texts : List ℕ → List (List ℕ)
texts [] = []
texts (b ∷ bs) = if b == 10 then [] ∷ texts bs else onto b (texts bs)

-- Without one CR at the end.
unfoldable pub without_cr : List ℕ → List ℕ
without_cr text = if ends_with 13 text then take (length text - 1) text else text

abbrev pub is_word : List ℕ → List ℕ → Bool
is_word word field = str_eq_ignore_ascii_case field word

-- What comes before a line, and the triangles so far.
pub record SoFar : Type 0 where
  pub stage : Stage
  pub triangles : Triangles

-- One word alone, and none.
abbrev pub is_alone : List ℕ → List (List ℕ) → Bool
is_alone word (w ∷ []) = is_word word w
is_alone word _ = false

-- The stage after a line that begins with this word, of those that are no vertex and end no facet.
unfoldable pub stage_after : Stage → List ℕ → List (List ℕ) → Option Stage
stage_after stages.Outside word more =
    if is_word (codes "solid") word then Some stages.Solid else None
stage_after stages.Solid word more =
    if is_word (codes "facet") word then Some stages.Facet
    else if is_word (codes "endsolid") word then Some stages.Outside
    else None
stage_after stages.Facet word more =
    if is_word (codes "outer") word && is_alone (codes "loop") more then Some stages.First else None
stage_after (stages.Full f) word more =
    if is_alone (codes "endloop") (word ∷ more) then Some (stages.Done f) else None
stage_after _ word more = None

-- The stage after a vertex with this number.
abbrev pub with_vertex : Stage → ℕ → Option Stage
with_vertex stages.First v = Some (stages.Second v)
with_vertex (stages.Second a) v = Some (stages.Third a v)
with_vertex (stages.Third a b) v = Some (stages.Full (record { a = a; b = b; c = v }))
with_vertex _ v = None

-- A stage with these triangles, if the line fits.
abbrev pub at_stage : ℕ → Triangles → Option Stage → Result SoFar Refused
at_stage line t (Some stage) = Ok (record { stage = stage; triangles = t })
at_stage line t None = refused faults.UnexpectedWord line

abbrev pub of_decimal : ℕ → Result ℤ ObjFault → Result ℤ Refused
of_decimal line (Ok x) = Ok x
of_decimal line (Err decimals.OutOfRange) = refused faults.TooLarge line
of_decimal line (Err _) = refused faults.BadNumber line

-- The point that three words are.
unfoldable pub point_of : ℕ → List ℕ → List ℕ → List ℕ → Result Place Refused
point_of line a b c =
    of_decimal line (decimal_coordinate a) >>= λ x. of_decimal line (decimal_coordinate b) >>= λ y.
    of_decimal line (decimal_coordinate c) >>= λ z. Ok (record { x = x; y = y; z = z })

-- With a corner.
abbrev pub with_corner : ℕ → SoFar → Corner → Result SoFar Refused
with_corner line s c =
    at_stage line (record s.triangles { points = c.points }) (with_vertex s.stage c.vertex)

-- Three words and no more.
abbrev pub three : List (List ℕ) → Option (List ℕ × List ℕ × List ℕ)
three (a ∷ b ∷ c ∷ []) = Some (a, b, c)
three _ = None

-- With a corner at this point.
unfoldable pub with_point_at : ℕ → SoFar → Place → Result SoFar Refused
with_point_at line s p = corner_of line s.triangles.points p >>= with_corner line s

abbrev pub vertex_of : ℕ → SoFar → Option (List ℕ × List ℕ × List ℕ) → Result SoFar Refused
vertex_of line s (Some w) = point_of line w.0 w.1 w.2 >>= with_point_at line s
vertex_of line s None = refused faults.UnexpectedWord line

-- A line of a vertex.
unfoldable pub vertex_line : ℕ → SoFar → List ℕ → List (List ℕ) → Result SoFar Refused
vertex_line line s word more =
    if is_word (codes "vertex") word then vertex_of line s (three more)
    else refused faults.UnexpectedWord line

-- A line that ends a facet.
unfoldable pub end_line : ℕ → Triangles → Corners → List (List ℕ) → Result SoFar Refused
end_line line t f words =
    if is_alone (codes "endfacet") words then
    (if nat_le MOST_FACES (length t.faces) then refused faults.TooManyFaces line
    else Ok (record {
      stage = stages.Solid;
      triangles = record t { faces = t.faces ++ f ∷ [] };
    }))
    else refused faults.UnexpectedWord line

-- A line with words, by the stage.
abbrev pub by_stage : Stage → ℕ → SoFar → List ℕ → List (List ℕ) → Result SoFar Refused
by_stage stages.First line s word more = vertex_line line s word more
by_stage (stages.Second a) line s word more = vertex_line line s word more
by_stage (stages.Third a b) line s word more = vertex_line line s word more
by_stage (stages.Done f) line s word more = end_line line s.triangles f (word ∷ more)
by_stage stage line s word more = at_stage line s.triangles (stage_after stage word more)

-- What comes before the next line.
abbrev pub after_words : ℕ → SoFar → List (List ℕ) → Result SoFar Refused
after_words line s [] = Ok s
after_words line s (word ∷ more) = by_stage s.stage line s word more

unfoldable pub after_text : ℕ → SoFar → List ℕ → Result SoFar Refused
after_text line s text = after_words line s (fields (without_cr text))

-- At the end no solid is open.
abbrev pub ended : ℕ → SoFar → Stage → Result Triangles Refused
ended line s stages.Outside = Ok s.triangles
ended line s _ = refused faults.CutOff line

-- The triangles of the lines from this one on.
abbrev pub from_line : ℕ → SoFar → List (List ℕ) → Result Triangles Refused
from_line line s [] = ended line s s.stage
from_line line s (text ∷ more) = after_text line s text >>= λ t. from_line (line + 1) t more

-- Before the first line.
abbrev pub at_start : SoFar
at_start = record { stage = stages.Outside; triangles = no_triangles }

-- The points and triangles of a text, or its first fault, at its line, counted from 1. A text that
-- is cut off has it after its last line.
unfoldable pub text_meaning : List ℕ → Result Triangles Refused
text_meaning bytes = from_line 1 at_start (texts bytes)
