-- What is written is read as the mesh that was made.
use Rattle.std.proofs.Common.{◌≡◌, ℕ, ◌<◌, List, [], ◌∷◌, ◌++◌, length, Option, Result, Ok, IfOk}
use Rattle.std.proofs.Common.{sym, ◌∙◌, ap, subst, arith, append_assoc}
use Rattle.std.specs.List.{All}
use Rattle.pm_base.specs.Place.{IsPlace}
use Rattle.pm_base.specs.Meshes.{Mesh}
use Rattle.pm_base.specs.Canonical.{canonical_text}
use Rattle.obj_lines.specs.Text.{until}
use Rattle.obj_read.specs.Meaning.{meaning_of}
use Rattle.obj_read.proofs.CommentLaws.{commented_is_read}
use Rattle.obj_scan.specs.Judged.{Scanned}
use Rattle.mesh_scan.specs.Meaning.{of_obj, mesh_meaning_of}
use Rattle.obj_scan.specs.Laws.{scanned_mesh}
use Rattle.obj_scan.proofs.ReadLaws.{canonical_scanned}
use Rattle.obj_prepare.specs.Named.{of_three}
use Rattle.obj_prepare.specs.Placing.{IsSize}
use Rattle.obj_fit.specs.declared.fault.Fault.{Fault}
use Rattle.obj_fit.specs.Outcome.{Done, MakesPrepared, fit_in, places_in, IsPreparedText, bad_file}
use Rattle.obj_fit.specs.Outcome.{too_many, no_face, made}
use Rattle.obj_fit.specs.Laws.{IsFitText, TextsAreRead}
use Rattle.obj_fit.proofs.SoundLaws.{meaning_sound, comment_means}
use Rattle.obj_fit.proofs.GridLaws.{places_on_grid, taken_on_grid, fit_of_measured}
use Rattle.obj_fit.proofs.HeadLaws.{head_comment}

-- The points of a mesh that was made are on the grid.
pub made_on_grid : (size : Option ℕ) (s : Scanned) (done : Done) → IsSize size
    → (m : MakesPrepared size s done) → All IsPlace m.mesh.points
made_on_grid size s done is m =
    let places = places_in size s in
    let p = m.prepared.0 in
    subst (All IsPlace) (sym p.stand)
    (taken_on_grid places p.old (places_on_grid size s.points (of_three s.faces) is))

-- It is written after a comment.
record IsCommented (text : List ℕ) (m : Mesh) : Type 0 where
  line : List ℕ
  line_is : until 10 line ≡ line
  plain : until 13 line ≡ line
  short : length line < 65536
  text_is : text ≡ (35 ∷ line) ++ 10 ∷ canonical_text 0 m

made_written : (size : Option ℕ) (bytes : List ℕ) (s : Scanned) (done : Done) → IsSize size
    → mesh_meaning_of bytes ≡ Ok s → (m : MakesPrepared size s done) → IsCommented done.text m.mesh
made_written size bytes s done is means m =
    let fit = fit_in size s in
    let head = head_comment fit
    (fit_of_measured size s.points (of_three s.faces) is (meaning_sound bytes s means).exact)
    in
    let text = canonical_text 0 m.mesh in
    record {
      line = head.line;
      line_is = head.line_is;
      plain = head.plain;
      short = head.short;
      text_is = m.text_is ∙ ap (λ (h : List ℕ). h ++ text) head.text_is
          ∙ append_assoc (35 ∷ head.line) (10 ∷ []) text;
    }

made_is_read : (size : Option ℕ) (bytes : List ℕ) (s : Scanned) (done : Done) → IsSize size
    → mesh_meaning_of bytes ≡ Ok s → MakesPrepared size s done → IsFitText done.text
made_is_read size bytes s done is means m =
    let w = made_written size bytes s done is means m in
    record {
      mesh = m.mesh;
      line = w.line;
      line_is = w.line_is;
      plain = w.plain;
      text_is = w.text_is;
      formed = m.formed;
      manifold = m.manifold;
      read = ap (meaning_of 0) w.text_is ∙ commented_is_read 0 w.line m.mesh w.line_is w.short
          (omega arith) m.formed (made_on_grid size s done is m);
    }

pub mesh_is_read : (size : Option ℕ) (bytes : List ℕ) (s : Scanned) (done : Done) → IsSize size
    → mesh_meaning_of bytes ≡ Ok s → (m : MakesPrepared size s done)
    → meaning_of 0 done.text ≡ Ok m.mesh
unfolding made_is_read
mesh_is_read size bytes s done is means m = (made_is_read size bytes s done is means m).read

-- It is scanned as that mesh, too.
pub made_scanned : (size : Option ℕ) (bytes : List ℕ) (s : Scanned) (done : Done) → IsSize size
    → mesh_meaning_of bytes ≡ Ok s → (m : MakesPrepared size s done)
    → mesh_meaning_of done.text ≡ Ok (scanned_mesh m.mesh)
made_scanned size bytes s done is means m =
    let w = made_written size bytes s done is means m in
    ap mesh_meaning_of w.text_is
    ∙ comment_means (w.line ++ 10 ∷ canonical_text 0 m.mesh)
    ∙ ap of_obj (canonical_scanned w.line m.mesh w.line_is w.plain w.short m.formed
    (made_on_grid size s done is m))

outcome_is_read : (size : Option ℕ) (bytes : List ℕ) (r : Result Done Fault) (place : Option ℕ)
    → IsSize size → IsPreparedText size bytes r place → IfOk r (λ done. IsFitText done.text)
outcome_is_read size bytes found place is (bad_file r means) = tt
outcome_is_read size bytes found place is (too_many s means many) = tt
outcome_is_read size bytes found place is (no_face s means none) = tt
outcome_is_read size bytes found place is (made s done means makes) =
    made_is_read size bytes s done is means makes

pub texts_are_read : TextsAreRead
texts_are_read size bytes done place is outcome =
    outcome_is_read size bytes (Ok done) place is outcome
