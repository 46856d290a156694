-- The laws of canonical text, and of a comment in front of a text.
use Rattle.std.specs.Prelude.{ℕ, ◌≡◌, ◌<◌, ◌≤◌, List, ◌∷◌, ◌++◌, length, Ok}
use Rattle.std.specs.List.{All}
use Rattle.obj_lines.specs.declared.limits.TheConstants.{MOST_LINE_BYTES, MOST_TEXT_BYTES}
use Rattle.pm_base.specs.Place.{IsPlace}
use Rattle.pm_base.specs.Meshes.{Mesh, IsWellFormed}
use Rattle.pm_base.specs.Canonical.{canonical_text}
use Rattle.obj_lines.specs.Text.{until}
use Rattle.obj_read.specs.Meaning.{meaning_of}
use Rattle.pm_io.specs.Letters.{line_feed, hash_sign}

-- The canonical text of a mesh is read as that mesh.
abbrev pub CanonicalIsRead : Type 0
CanonicalIsRead = (digits : ℕ) (m : Mesh) → digits ≤ 4 → IsWellFormed m → All IsPlace m.points
    → meaning_of digits (canonical_text digits m) ≡ Ok m

-- A line that is a comment, in front of a text that spells a mesh, changes nothing, where neither
-- gets too long.
abbrev pub CommentIsSkipped : Type 0
CommentIsSkipped = (digits : ℕ) (line bytes : List ℕ) (m : Mesh) → until line_feed line ≡ line
    → length line < MOST_LINE_BYTES
    → length ((hash_sign ∷ line) ++ line_feed ∷ bytes) ≤ MOST_TEXT_BYTES
    → meaning_of digits bytes ≡ Ok m
    → meaning_of digits ((hash_sign ∷ line) ++ line_feed ∷ bytes) ≡ Ok m

-- So the canonical text of a mesh after a comment is read as that mesh.
abbrev pub CommentedIsRead : Type 0
CommentedIsRead = (digits : ℕ) (line : List ℕ) (m : Mesh) → until line_feed line ≡ line
    → length line < MOST_LINE_BYTES → digits ≤ 4 → IsWellFormed m → All IsPlace m.points
    → meaning_of digits ((hash_sign ∷ line) ++ line_feed ∷ canonical_text digits m) ≡ Ok m
