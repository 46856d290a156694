-- A coordinate that is moved, read back from its bits.
use Rattle.std.proofs.Common.{◌≡◌, ℕ, w32, FitsSigned, to_z, of_z, refl, ◌∙◌}
use mir.Syntax.{w128}
use Rattle.std.specs.Prelude.{ℤ, ◌-ℤ◌, ◌*ℤ◌}
use Rattle.std.proofs.lemmas.Int.{to_z-of_z}
use Rattle.pm_fine.specs.Rounded.{near}

pub coordinate_is :
    (r x c n v : ℤ) (d e : ℕ) → FitsSigned w128 r → FitsSigned w32 x → FitsSigned w128 n →
    FitsSigned w128 v → x ≡ c → d ≡ e →
    r ≡ to_z w32 (of_z w32 x) -ℤ near (to_z w128 (of_z w128 n) *ℤ to_z w128 (of_z w128 v)) d →
    to_z w128 (of_z w128 r) ≡ c -ℤ near (n *ℤ v) e
coordinate_is r x c n v d e fr fx fn fv ex ed is =
    to_z-of_z w128 r fr ∙ (is ∙ simp to_z-of_z (rw (ex, ed) refl))
