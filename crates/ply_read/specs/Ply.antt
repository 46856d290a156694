-- What a PLY file 1.0 gives.
use Rattle.std.specs.Prelude.{ℕ, ◌+◌, ◌-◌, ◌==◌, List, length, take, Result, Ok, Err}
use Rattle.std.specs.List.{count_by}
use Rattle.pm_base.specs.declared.mesh.Corners.{Corners}
use Rattle.pm_base.specs.Place.{Place}
use Rattle.pm_ears.specs.declared.recut.Polygon.{Polygon}
use Rattle.ply_read.specs.declared.declared.Encoding.{Encoding}
use Rattle.ply_read.specs.declared.declared.Encoding.TheVariants as encodings
use Rattle.ply_read.specs.declared.fault.Refused.{Refused}
use Rattle.ply_read.specs.declared.fault.Spot.{Spot}
use Rattle.ply_read.specs.declared.fault.Spot.TheVariants as spots
use Rattle.ply_read.specs.declared.losses.Losses.{Losses}
use Rattle.ply_read.specs.declared.stop.Stop.{Stop}
use Rattle.ply_read.specs.Body.{SoFar, at_body, with_declared}
use Rattle.ply_read.specs.Header.{Header, header_of}
use Rattle.ply_read.specs.Losses.{losses_of}
use Rattle.ply_read.specs.Results.{◌>>=◌}
use Rattle.ply_read.specs.Words.{from_word}

-- The points and triangles of a file, where the fan of each face of more than three corners stands
-- among these, and how many faces of fewer than three corners, how much by what the header
-- declares, and how many bytes after the last element were passed over. A unit is 10^-18.
pub record Triangles : Type 0 where
  pub points : List Place
  pub faces : List Corners
  pub polygons : List Polygon
  pub short_faces : ℕ
  pub losses : Losses
  pub trailing_bytes : ℕ

-- What stands after the last element: in a text, from a word on.
abbrev pub trailing : Encoding → List ℕ → List ℕ
trailing encodings.Ascii rest = from_word rest
trailing (encodings.Binary order) rest = rest

abbrev pub triangles_of : Header → SoFar → Triangles
triangles_of h s = record {
  points = s.points;
  faces = s.faces;
  polygons = s.polygons;
  short_faces = s.short_faces;
  losses = losses_of h.declared;
  trailing_bytes = length (trailing h.encoding s.rest);
}

-- The line after these bytes, and the place where so many bytes are left.
abbrev pub line_after : List ℕ → ℕ
line_after before = 1 + count_by (λ b. b == 10) before

abbrev pub spot_of : Encoding → List ℕ → ℕ → Spot
spot_of encodings.Ascii bytes left =
    spots.Line (line_after (take (length bytes - left) bytes))
spot_of (encodings.Binary order) bytes left = spots.Byte (length bytes - left)

abbrev pub placed : {A : Type 0} → Encoding → List ℕ → Result A Stop → Result A Refused
placed e bytes (Ok a) = Ok a
placed e bytes (Err stop) =
    Err (record { fault = stop.fault; spot = spot_of e bytes stop.left })

abbrev pub body_of : List ℕ → Header → Result Triangles Refused
body_of bytes h = placed h.encoding bytes (with_declared h.encoding h.declared (at_body h.body))
    >>= λ s. Ok (triangles_of h s)

-- The points and triangles of a file, or its first fault: at the line of its header or of a text,
-- or at the byte.
unfoldable pub ply_meaning_of : List ℕ → Result Triangles Refused
ply_meaning_of bytes = header_of bytes >>= body_of bytes
