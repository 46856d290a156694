-- What is said where nothing needs to be done.
use Rattle.std.proofs.Common.{◌≡◌, ℕ, ◌<◌, false, ◌*◌, None, nat_le, refl, ◌∙◌, List, [], ◌++◌}
use Rattle.std.proofs.lemmas.Grind.{common_steps}
use Rattle.std.proofs.Common.{length, arith}
use Rattle.std.proofs.lemmas.Bool.{eq-eqb}
use Rattle.std.proofs.lemmas.List.{append-nil}
use Rattle.pm_base.specs.declared.mesh.Corners.{Corners}
use Rattle.obj_prepare.specs.declared.placing.Fit.{Fit}
use Rattle.obj_prepare.specs.declared.placing.Fit.TheVariants as fits
use Rattle.obj_fit.specs.Outcome.{warning_for}
use Rattle.pm_base.specs.Place.{Place}
use Rattle.std.proofs.lemmas.Bool.Decides.{nat_tests}
use Rattle.obj_fit.specs.declared.counts.Counts.{Counts}
use Rattle.obj_fit.specs.Texts.{account_line, warning_line, note_line, polygon_notes, inexact_note}
use Rattle.obj_fit.specs.Texts.{line_notes, welded_line, dropped_notes, face_notes, inward_note}
use Rattle.obj_fit.specs.Texts.{turn_notes, apart_line, vertex_notes, thin_note, last_note}
use Rattle.obj_fit.specs.Texts.{rounded_notes, passed_notes, notes_text}
use Rattle.obj_prepare.specs.Nothing.{nothing_done}

four_ends : (line : List ℕ) → line ++ [] ++ [] ++ [] ++ [] ≡ line
four_ends line =
    append-nil (line ++ [] ++ [] ++ []) ∙ append-nil (line ++ [] ++ []) ∙ append-nil (line ++ [])
    ∙ append-nil line

-- Where as much came out as there was, that isn't told.
pub no_account : (c : Counts) → c.vertices_in ≡ c.vertices_out → c.triangles_in ≡ c.triangles_out
    → account_line c ≡ []
unfolding account_line
no_account c vertices triangles = grind (arith, common_steps, eq-eqb)

-- Only polygons that were cut, vertices that were rounded as they were read, triangles that
-- rounding made flat or turned over, what was passed over, closed surfaces that look inward and
-- faces without area are told.
pub nothing_said : (c : Counts) (rounded k : ℕ) (fit : Fit) → account_line c ≡ [] → c.twice ≡ 0
    → notes_text c (nothing_done k) rounded fit None ≡ polygon_notes c.polygons c.overlapping
    ++ inexact_note c.inexact
    ++ rounded_notes c.rounded
    ++ passed_notes c.passed
    ++ inward_note k
    ++ thin_note c.thin ++ last_note fit
unfolding notes_text face_notes line_notes welded_line dropped_notes turn_notes apart_line
    vertex_notes note_line warning_line
nothing_said c rounded k fit same none = grind (arith, common_steps, append-nil, four_ends)

-- Where no triangle became an edge nothing is warned of.
pub no_warning : (fit : Fit) (points : List Place) (triangles : List Corners)
    → 0 < length triangles → warning_for fit points triangles 0 ≡ None
no_warning fits.Standing points triangles some = refl
no_warning (fits.Scaled size b) points triangles some =
    let few : nat_le (length triangles) (10 * 0) ≡ false = grind (arith, nat_tests, some) in
    rw few refl
