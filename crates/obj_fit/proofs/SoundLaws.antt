-- What a file gives is within the limits, and each of its points is at most 10^32 units away from 0
-- on each axis.
use Rattle.std.proofs.Common.{◌≡◌, ℕ, Bool, true, false, nat_lt, List, ◌∷◌, length, Result, Ok, Err}
use Rattle.std.proofs.Common.{IfOk, refl, subst, ap, if◌then◌else◌}
use Rattle.obj_scan.specs.Refusals.{Refused as TextRefused}
use Rattle.obj_scan.specs.Judged.{Scanned}
use Rattle.obj_scan.specs.Meaning.{scan_meaning_of}
use Rattle.stl_read.specs.declared.fault.Refused.{Refused as StlRefused}
use Rattle.stl_read.specs.Stl.{stl_meaning_of}
use Rattle.stl_read.specs.Vertices.{Triangles as StlTriangles}
use Rattle.ply_read.specs.declared.fault.Refused.{Refused as PlyRefused}
use Rattle.ply_read.specs.Ply.{ply_meaning_of, Triangles as PlyTriangles}
use Rattle.obj_lines.specs.declared.limits.TheConstants.{MOST_TEXT_BYTES}
use Rattle.mesh_scan.specs.declared.format.Format.{Format}
use Rattle.mesh_scan.specs.declared.format.Format.TheVariants as formats
use Rattle.mesh_scan.specs.Formats.{format_of}
use Rattle.mesh_scan.specs.Meaning.{Refused, of_obj, of_stl, of_ply, if_short, meaning_as}
use Rattle.mesh_scan.specs.Meaning.{mesh_meaning_of}
use Rattle.mesh_scan.proofs.ExactLaws.{IsSound}
use Rattle.mesh_scan.proofs.FormatLaws.{headed_is_obj}
use Rattle.mesh_scan.proofs.StlTextLaws.{stl_sound}
use Rattle.mesh_scan.proofs.PlyLaws.{ply_sound}
use Rattle.obj_fit.proofs.ScannedLaws.{text_sound}

obj_sound : (r : Result Scanned TextRefused) → IfOk r IsSound → IfOk (of_obj r) IsSound
obj_sound (Ok s) sound = sound
obj_sound (Err r) sound = tt

stl_given : (bytes : List ℕ) (r : Result StlTriangles StlRefused) → stl_meaning_of bytes ≡ r
    → IfOk (of_stl bytes r) IsSound
stl_given bytes (Ok t) is = stl_sound bytes t is
stl_given bytes (Err r) is = tt

ply_given : (bytes : List ℕ) (r : Result PlyTriangles PlyRefused) → ply_meaning_of bytes ≡ r
    → IfOk (of_ply r) IsSound
ply_given bytes (Ok t) is = ply_sound bytes t is
ply_given bytes (Err r) is = tt

unless_long : (long : Bool) (e : Refused) (r : Result Scanned Refused) → IfOk r IsSound
    → IfOk (if long then Err e else r) IsSound
unless_long true e r sound = tt
unless_long false e r sound = sound

short_sound : (bytes : List ℕ) (r : Result Scanned Refused) → IfOk r IsSound
    → IfOk (if_short bytes r) IsSound
short_sound bytes r sound = unless_long (nat_lt MOST_TEXT_BYTES (length bytes)) _ r sound

as_sound : (format : Format) (bytes : List ℕ) → IfOk (meaning_as format bytes) IsSound
as_sound formats.Obj bytes = obj_sound (scan_meaning_of bytes) (text_sound bytes)
as_sound formats.Stl bytes =
    short_sound bytes (of_stl bytes (stl_meaning_of bytes))
    (stl_given bytes (stl_meaning_of bytes) refl)
as_sound formats.Ply bytes =
    short_sound bytes (of_ply (ply_meaning_of bytes)) (ply_given bytes (ply_meaning_of bytes) refl)
as_sound (formats.Foreign kind) bytes = tt

pub meaning_sound : (bytes : List ℕ) (s : Scanned) → mesh_meaning_of bytes ≡ Ok s → IsSound s
unfolding mesh_meaning_of
meaning_sound bytes s is =
    subst (λ (r : Result Scanned Refused). IfOk r IsSound) is (as_sound (format_of bytes) bytes)

-- An OBJ text means what it spells,
pub text_means : (bytes : List ℕ) → format_of bytes ≡ formats.Obj
    → mesh_meaning_of bytes ≡ of_obj (scan_meaning_of bytes)
unfolding mesh_meaning_of
text_means bytes is = ap (λ (f : Format). meaning_as f bytes) is

-- and so does one that begins with a comment.
pub comment_means : (text : List ℕ)
    → mesh_meaning_of (35 ∷ text) ≡ of_obj (scan_meaning_of (35 ∷ text))
comment_means text = text_means (35 ∷ text) (headed_is_obj text)
