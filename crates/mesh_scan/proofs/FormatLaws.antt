-- A text that begins with a comment is an OBJ text.
use Rattle.std.proofs.Common.{◌≡◌, ℕ, List, ◌∷◌, refl}
use Rattle.mesh_scan.specs.declared.format.Format.TheVariants as formats
use Rattle.mesh_scan.specs.Formats.{format_by, format_of}

pub headed_is_obj : (text : List ℕ) → format_of (35 ∷ text) ≡ formats.Obj
unfolding format_by
headed_is_obj text = refl
