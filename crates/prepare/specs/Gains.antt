-- What a sink gained of a text that was made fit.
use Rattle.std.specs.Prelude.{◌≡◌, ℕ, ◌<◌, List, length, Option, Ok}
use Rattle.pm_base.specs.Meshes.{Mesh}
use Rattle.pm_base.specs.Sides.{net_of}
use Rattle.pm_io.specs.Bytes.{Gains}
use Rattle.pm_io.specs.Puts.{Said}
use Rattle.pm_turn.specs.Told.{AreInsideOut}
use Rattle.obj_read.specs.Meaning.{meaning_of}
use Rattle.obj_scan.specs.Judged.{Scanned}
use Rattle.mesh_scan.specs.Meaning.{mesh_meaning_of}
use Rattle.obj_fit.specs.Outcome.{cut_in, places_in}
use Rattle.obj_fit.specs.Laws.{IsFitText, ComesBack, NeedsNothing, as_it_is, TextLeadsBack}

-- Where the bytes spell such a text, it was put as it is, and no more than that was said.
abbrev pub StaysAsItIs : Option ℕ → List ℕ → Option (List ℕ) → Option (List ℕ)
    → Option (List ℕ) → Option (List ℕ) → ℕ → ℕ → Type 0
StaysAsItIs size bytes old new err_old err_new err_before err_now = (s : Scanned)
    → mesh_meaning_of bytes ≡ Ok s → NeedsNothing size s
    → (inside_out : ℕ) × AreInsideOut (net_of (cut_in size s)) (places_in size s) inside_out
    × Gains old new (as_it_is size s inside_out).text
    × Said err_old err_new err_before err_now (as_it_is size s inside_out).notes

-- A sink gained the text of an oriented manifold, which is read as that mesh and comes back.
pub record GainsFitText (old new : Option (List ℕ)) : Type 0 where
  pub text : List ℕ
  pub gained : Gains old new text
  pub fit : IsFitText text
  pub comes_back : ComesBack text fit.mesh

-- A sink gained a text of a mesh which, where it has faces, leads back to the points that these
-- bytes spell.
pub record GainsWayBack (size : Option ℕ) (bytes : List ℕ)
    (old new : Option (List ℕ)) : Type 0 where
  pub text : List ℕ
  pub mesh : Mesh
  pub gained : Gains old new text
  pub read : meaning_of 0 text ≡ Ok mesh
  pub leads : (s : Scanned) → mesh_meaning_of bytes ≡ Ok s → 0 < length mesh.faces
      → TextLeadsBack s (places_in size s) text mesh
