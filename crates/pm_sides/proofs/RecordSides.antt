-- The sides of a record's faces have consecutive numbers.
use Rattle.std.proofs.Common.{◌≡◌, ℕ, ◌+◌, ◌*◌, ◌<◌, ◌≤◌, Some, arith}
use Rattle.std.proofs.lemmas.Grind.{common_steps}
use Rattle.pm_base.specs.Sides.{face_of}
use Rattle.pm_forest.specs.Forest.{Hierarchy, record_count}
use Rattle.pm_forest.specs.Faces.{first_face, face_count, revealed_by, record_of}
use Rattle.pm_forest.proofs.FaceNumbers.{first_face-mono, revealed-parts, revealed-from}

pub corner_of-record : (h : Hierarchy) (k e : ℕ) → k < record_count h → 3 * first_face h k ≤ e
    → e < 3 * first_face h (k + 1) →
    (e < 3 * face_count h) × (record_of h e ≡ Some k)
corner_of-record h k e l low high = grind (arith, common_steps, first_face-mono, revealed-from)

pub face-record : (h : Hierarchy) (k f : ℕ) → k < record_count h → first_face h k ≤ f
    → f < first_face h (k + 1) → (f < face_count h) × (revealed_by h f ≡ Some k)
face-record h k f l low high = grind (arith, common_steps, first_face-mono, revealed-from)

pub record-corner_of : (h : Hierarchy) (k e : ℕ) → e < 3 * face_count h → record_of h e ≡ Some k
    → (3 * first_face h k ≤ e) × (e < 3 * first_face h (k + 1))
record-corner_of h k e l own = grind (arith, common_steps, revealed-parts h (face_of e) k)
