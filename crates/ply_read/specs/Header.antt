-- The header of a PLY file 1.0: a line `ply`, and lines that say the format, declare elements and
-- their properties, or are remarks, up to `end_header`. A line ends with LF or CR LF; words stand
-- between spaces and tabs, and an empty line is passed over.
use Rattle.std.specs.Prelude.{ℕ, ◌+◌, Bool, true, false, not, ◌||◌, List, [], ◌∷◌, ◌++◌, nat_lt}
use Rattle.std.specs.Prelude.{Option, Some, None, Result, Ok, codes, if◌then◌else◌}
use Rattle.pm_base.specs.declared.limits.TheConstants.{MOST_VERTICES}
use Rattle.pm_io.specs.Digits.{unsigned_of}
use Rattle.ply_read.specs.declared.declared.Encoding.{Encoding}
use Rattle.ply_read.specs.declared.declared.ScalarType.{ScalarType}
use Rattle.ply_read.specs.declared.declared.Role.{Role}
use Rattle.ply_read.specs.declared.declared.Kind.{Kind}
use Rattle.ply_read.specs.declared.declared.Kind.TheVariants as kinds
use Rattle.ply_read.specs.declared.declared.Element.{Element}
use Rattle.ply_read.specs.declared.declared.Property.{Property}
use Rattle.ply_read.specs.declared.declared.Declared.{Declared}
use Rattle.ply_read.specs.declared.declared.Declared.TheVariants as lines_of
use Rattle.ply_read.specs.declared.fault.PlyFault.TheVariants as faults
use Rattle.ply_read.specs.declared.fault.Refused.{Refused}
use Rattle.ply_read.specs.declared.opening.Opening.{Opening}
use Rattle.ply_read.specs.declared.opening.Opening.TheVariants as openings
use Rattle.ply_read.specs.Lines.{Line, lines, words, is_word, one, two, three, is_only}
use Rattle.ply_read.specs.Names.{encoding_of, type_of, is_whole_type, role_of, kind_of}
use Rattle.ply_read.specs.Opening.{opening_of, with_property, is_complete}
use Rattle.ply_read.specs.Results.{◌>>=◌, refused}

-- What the lines so far say: the format, what they declare, the properties of the element that is
-- being declared, and whether there were elements `vertex` and `face`.
pub record SoFar : Type 0 where
  pub encoding : Option Encoding
  pub declared : List Declared
  pub opening : Opening
  pub vertices : Bool
  pub faces : Bool

abbrev pub at_start : SoFar
at_start = record {
  encoding = None;
  declared = [];
  opening = openings.Nothing;
  vertices = false;
  faces = false;
}

-- A line `format`, which stands there once.
abbrev pub with_format : ℕ → SoFar → Option Encoding → Option Encoding → Result SoFar Refused
with_format line s None (Some e) = Ok (record s { encoding = Some e })
with_format line s None None = refused faults.UnknownFormat line
with_format line s (Some old) e = refused faults.UnexpectedLine line

abbrev pub format_line : ℕ → SoFar → Option (List ℕ × List ℕ) → Result SoFar Refused
format_line line s (Some w) =
    if is_word (codes "1.0") w.1 then with_format line s s.encoding (encoding_of w.0)
    else refused faults.UnknownFormat line
format_line line s None = refused faults.UnexpectedLine line

-- Elements of a kind, of which there are so many.
abbrev pub with_element : SoFar → Kind → ℕ → SoFar
with_element s kind count = record s {
  opening = opening_of kind;
  declared = s.declared ++ lines_of.Element (record { kind = kind; count = count }) ∷ [];
}

-- There is one element `vertex`, and at most one `face` after it.
unfoldable pub element_of : ℕ → SoFar → Kind → ℕ → Result SoFar Refused
element_of line s kinds.Vertex count =
    if s.vertices then refused faults.UnexpectedElement line
    else if nat_lt MOST_VERTICES count then refused faults.TooManyVertices line
    else Ok (with_element (record s { vertices = true }) kinds.Vertex count)
element_of line s kinds.Face count =
    if s.faces || not s.vertices then refused faults.UnexpectedElement line
    else Ok (with_element (record s { faces = true }) kinds.Face count)
element_of line s kinds.Other count = Ok (with_element s kinds.Other count)

abbrev pub counted : ℕ → SoFar → List ℕ → Option ℕ → Result SoFar Refused
counted line s name (Some count) = element_of line s (kind_of name) count
counted line s name None = refused faults.BadNumber line

-- A line `element`, where the element before it has the properties that it needs.
abbrev pub element_line : ℕ → SoFar → Option (List ℕ × List ℕ) → Result SoFar Refused
element_line line s (Some w) =
    if not (is_complete s.opening) then refused faults.MissingProperty line
    else if is_word (codes "tristrips") w.0 then refused faults.TriangleStrips line
    else counted line s w.0 (unsigned_of 4294967295 w.1)
element_line line s None = refused faults.UnexpectedLine line

-- A property of one number, and of a list of numbers.
abbrev pub single : Role → Option ScalarType → Option Property
single role (Some item) = Some (record { role = role; length = None; item = item })
single role None = None

abbrev pub list_of : Role → Option ScalarType → Option ScalarType → Option Property
list_of role (Some count) (Some item) =
    if is_whole_type count then Some (record { role = role; length = Some count; item = item })
    else None
list_of role _ _ = None

abbrev pub with_opening : ℕ → SoFar → Property → Option Opening → Result SoFar Refused
with_opening line s p (Some opening) = Ok (record s {
  opening = opening;
  declared = s.declared ++ lines_of.Property p ∷ [];
})
with_opening line s p None = refused faults.UnexpectedProperty line

abbrev pub property_of : ℕ → SoFar → Option Property → Result SoFar Refused
property_of line s (Some p) = with_opening line s p (with_property s.opening p)
property_of line s None = refused faults.UnknownType line

abbrev pub list_line : ℕ → SoFar → Option (List ℕ × List ℕ × List ℕ) → Result SoFar Refused
list_line line s (Some w) =
    property_of line s (list_of (role_of w.2) (type_of w.0) (type_of w.1))
list_line line s None = refused faults.UnexpectedLine line

abbrev pub single_line : ℕ → SoFar → List ℕ → Option (List ℕ) → Result SoFar Refused
single_line line s item (Some name) = property_of line s (single (role_of name) (type_of item))
single_line line s item None = refused faults.UnexpectedLine line

-- A line `property`.
unfoldable pub property_line : ℕ → SoFar → List (List ℕ) → Result SoFar Refused
property_line line s [] = refused faults.UnexpectedLine line
property_line line s (first ∷ more) =
    if is_word (codes "list") first then list_line line s (three more)
    else single_line line s first (one more)

-- With a line.
unfoldable pub after_words : ℕ → SoFar → List (List ℕ) → Result SoFar Refused
after_words line s [] = Ok s
after_words line s (word ∷ more) =
    if is_word (codes "comment") word || is_word (codes "obj_info") word then Ok s
    else if is_word (codes "format") word then format_line line s (two more)
    else if is_word (codes "element") word then element_line line s (two more)
    else if is_word (codes "property") word then property_line line s more
    else refused faults.UnexpectedLine line

-- What a header tells, and the bytes after it.
pub record Header : Type 0 where
  pub encoding : Encoding
  pub declared : List Declared
  pub body : List ℕ

abbrev pub with_encoding : ℕ → SoFar → List ℕ → Option Encoding → Result Header Refused
with_encoding line s body (Some e) =
    Ok (record { encoding = e; declared = s.declared; body = body })
with_encoding line s body None = refused faults.UnknownFormat line

-- At the line `end_header`.
unfoldable pub ended : ℕ → SoFar → List ℕ → Result Header Refused
ended line s body =
    if not (is_complete s.opening) then refused faults.MissingProperty line
    else if not s.vertices then refused faults.NoVertices line
    else with_encoding line s body s.encoding

-- The header whose lines from this one on are these.
abbrev pub from_line : ℕ → SoFar → List Line → Result Header Refused
from_line line s [] = refused faults.CutOff line
from_line line s (l ∷ more) =
    if is_only (codes "end_header") (one (words l.text)) then ended line s l.after
    else after_words line s (words l.text) >>= λ t. from_line (line + 1) t more

abbrev pub from_first : List Line → Result Header Refused
from_first [] = refused faults.NotPly 1
from_first (l ∷ more) =
    if is_only (codes "ply") (one (words l.text)) then from_line 2 at_start more
    else refused faults.NotPly 1

-- The header of a file, or its first fault, at its line.
unfoldable pub header_of : List ℕ → Result Header Refused
header_of bytes = from_first (lines bytes)
