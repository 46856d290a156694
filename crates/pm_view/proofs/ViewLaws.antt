-- A view whose numbers pass the tests.
use Rattle.std.proofs.Common.{arith, ◌≡◌, ◌≤◌, true, ◌&&◌, length}
use Rattle.std.proofs.lemmas.Grind.{common_steps}
use Rattle.std.proofs.lemmas.Bool.{and_parts, leb-true}
use Rattle.std.specs.Prelude.{nat_le}
use Rattle.std.specs.List.{list_all}
use Rattle.pm_base.specs.Place.{Place}
use Rattle.pm_view.specs.declared.limits.TheConstants.{GREATEST_FOCAL_LENGTH}
use Rattle.pm_view.specs.Views.{View, is_eye, IsEye, is_plane, are_tolerances, IsView}

eye_tested : (p : Place) → is_eye p ≡ true → IsEye p
eye_tested p e = grind (arith, common_steps, and_parts, leb-true)

pub tested : (v : View) (eye : Place) → v.eye ≡ eye → is_eye eye ≡ true
    → (nat_le v.focal GREATEST_FOCAL_LENGTH && are_tolerances v.tol v.sil
    && list_all is_plane v.planes) ≡ true
    → length v.planes ≤ 6 → IsView v
tested v eye is e rest few = grind (arith, common_steps, and_parts, eye_tested, leb-true)
