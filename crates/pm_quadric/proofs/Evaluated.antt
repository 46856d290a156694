-- The terms of a quadric's polynomial at a place, read back from their bits.
use Rattle.std.proofs.Common.{◌≡◌, w32, FitsSigned, to_z, of_z, refl, ◌∙◌}
use mir.Syntax.{w128}
use Rattle.std.specs.Prelude.{ℤ, ◌+ℤ◌, ◌*ℤ◌}
use Rattle.std.proofs.lemmas.Int.{to_z-of_z}

-- A coefficient times two coordinates, and times one.
pub quadratic_is : (r s x y s' x' y' : ℤ)
    → r ≡ to_z w128 (of_z w128 s) *ℤ (to_z w32 (of_z w32 x) *ℤ to_z w32 (of_z w32 y))
    → FitsSigned w128 s → FitsSigned w32 x → FitsSigned w32 y
    → s ≡ s' → x ≡ x' → y ≡ y' → r ≡ s' *ℤ (x' *ℤ y')
quadratic_is r s x y s' x' y' e fs fx fy es ex ey = e ∙ simp to_z-of_z (rw (es, ex, ey) refl)

pub linear_is : (r s x s' x' : ℤ) → r ≡ to_z w128 (of_z w128 s) *ℤ to_z w32 (of_z w32 x)
    → FitsSigned w128 s → FitsSigned w32 x → s ≡ s' → x ≡ x' → r ≡ s' *ℤ x'
linear_is r s x s' x' e fs fx es ex = e ∙ simp to_z-of_z (rw (es, ex) refl)

-- The sum of three terms.
pub three_are : (r a b c a' b' c' : ℤ) → FitsSigned w128 r
    → r ≡ to_z w128 (of_z w128 a) +ℤ to_z w128 (of_z w128 b) +ℤ to_z w128 (of_z w128 c)
    → FitsSigned w128 a → FitsSigned w128 b → FitsSigned w128 c → a ≡ a' → b ≡ b' → c ≡ c'
    → to_z w128 (of_z w128 r) ≡ a' +ℤ b' +ℤ c'
three_are r a b c a' b' c' fr e fa fb fc ea eb ec =
    to_z-of_z w128 r fr ∙ (e ∙ simp to_z-of_z (rw (ea, eb, ec) refl))
