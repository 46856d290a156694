-- The laws of texts that `obj_read`, which reads the OBJ profile, takes too. A unit is 10^-18, and
-- byte 35 is `#`.
use Rattle.std.specs.Prelude.{ℕ, ◌≡◌, ◌<◌, ◌^◌, ◌*ℤ◌, ℤ, pos, Bool, true, false, not, List, []}
use Rattle.std.specs.Prelude.{◌∷◌, ◌++◌}
use Rattle.std.specs.Prelude.{length, map, Result, Ok, Err}
use Rattle.std.specs.List.{All, list_all}
use Rattle.obj_lines.specs.declared.limits.TheConstants.{MOST_LINE_BYTES}
use Rattle.pm_base.specs.Place.{Place, IsPlace}
use Rattle.pm_base.specs.Meshes.{Mesh, IsWellFormed}
use Rattle.pm_base.specs.Canonical.{canonical_text}
use Rattle.obj_lines.specs.Text.{until, lines, content}
use Rattle.obj_read.specs.Fields.{fields}
use Rattle.obj_read.specs.Meaning.{meaning_of as mesh_meaning}
use Rattle.pm_ears.specs.Recutting.{corners_of}
use Rattle.obj_scan.specs.Polygons.{fan_of}
use Rattle.obj_scan.specs.Forms.{has_lone_return, is_marked, is_wide}
use Rattle.obj_scan.specs.declared.passed.PassedOver.{PassedOver}
use Rattle.obj_scan.specs.Judged.{Scanned}
use Rattle.obj_scan.specs.Passing.{is_garbled, none_passed}
use Rattle.obj_scan.specs.Refusals.{Refused}
use Rattle.obj_scan.specs.Meaning.{scan_meaning_of}
use Rattle.pm_io.specs.Letters.{line_feed, carriage_return, hash_sign}

-- A whole number in units.
abbrev pub in_units : ℤ → ℤ
in_units n = n *ℤ pos (10 ^ 18)

-- A point of the grid in units.
abbrev pub scaled_up : Place → Place
scaled_up p = record { x = in_units p.x; y = in_units p.y; z = in_units p.z }

-- A mesh as the lines of its text give it: its points in units, none of them rounded, its
-- triangles, no polygons, and nothing that is passed over.
abbrev pub scanned_mesh : Mesh → Scanned
scanned_mesh m = record {
  points = map scaled_up m.points;
  inexact = 0;
  faces = m.faces;
  polygons = [];
  passed = none_passed;
}

-- The same, where this was passed over.
abbrev pub with_passed : PassedOver → Scanned → Scanned
with_passed p s = record s { passed = p }

-- What of a text was passed over.
abbrev pub passed_in : Result Scanned Refused → PassedOver
passed_in (Ok s) = s.passed
passed_in (Err r) = none_passed

-- The first word of these fields is garbled.
abbrev pub begins_garbled : List (List ℕ) → Bool
begins_garbled [] = false
begins_garbled (keyword ∷ more) = is_garbled keyword

abbrev pub has_clear_word : List ℕ → Bool
has_clear_word line = not (begins_garbled (fields (content (until line_feed line))))

-- No line of a text has a CR that doesn't end it or a first word that is garbled, and no byte order
-- mark stands before the first.
pub record IsFormed (bytes : List ℕ) : Type 0 where
  pub ended : list_all (λ line. not (has_lone_return (until line_feed line))) (lines bytes) ≡ true
  pub words : list_all has_clear_word (lines bytes) ≡ true
  pub unmarked : is_marked bytes ≡ false
  pub narrow : is_wide bytes ≡ false

-- The fan of a polygon keeps its corners in order, so the polygon is known by it.
abbrev pub FansLeadBack : Type 0
FansLeadBack = (a b c : ℕ) (more : List ℕ)
    → corners_of (fan_of (a ∷ b ∷ c ∷ more)) ≡ a ∷ b ∷ c ∷ more

-- A text so formed that is read as a mesh, with whole numbers for coordinates, is scanned as that
-- mesh, whatever of it is passed over.
abbrev pub ReadIsScanned : Type 0
ReadIsScanned = (bytes : List ℕ) (m : Mesh) → IsFormed bytes → mesh_meaning 0 bytes ≡ Ok m
    → scan_meaning_of bytes ≡ Ok (with_passed (passed_in (scan_meaning_of bytes))
    (scanned_mesh m))

-- So is the canonical text of a mesh after a comment without a CR.
abbrev pub CommentedIsScanned : Type 0
CommentedIsScanned = (line : List ℕ) (m : Mesh) → until line_feed line ≡ line
    → until carriage_return line ≡ line
    → length line < MOST_LINE_BYTES → IsWellFormed m → All IsPlace m.points
    → scan_meaning_of ((hash_sign ∷ line) ++ line_feed ∷ canonical_text 0 m) ≡ Ok (scanned_mesh m)
