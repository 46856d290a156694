use Rattle.std.proofs.Common.{◌≡◌, ◌<◌, ◌*◌, ◌+◌, ℕ, Some, None, length, slice_index_or}
use Rattle.pm_base.specs.Sides.{no_corners}
use Rattle.pm_shrink.specs.FaceRows.{across_in, face_row}
use Rattle.pm_shrink.proofs.faces.FaceTable.new.Given as goal

abbrev pub invariant-loop-face : goal.invariant-loop-face
invariant-loop-face l = record {
  len : length l.rows.items ≡ l.face;
  corners : (f : ℕ) → f < l.face → (face_row l.rows.items f).corners
      ≡ Some (slice_index_or l.faces f no_corners);
  across : (f i : ℕ) → f < l.face → i < 3 → across_in (face_row l.rows.items f) i
      ≡ slice_index_or l.across-inside.others.items (3 * f + i) None;
}
