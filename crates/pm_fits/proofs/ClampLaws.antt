-- Numbers brought within others fit where these do.
use Rattle.std.proofs.Common.{◌≡◌, FitsSigned, subst, arith}
use mir.Syntax.{Width}
use Rattle.std.specs.Prelude.{ℤ, pos, negsuc, ◌≤ℤ◌}
use Rattle.std.specs.Int.{int_min, int_max}
use Rattle.std.proofs.lemmas.Int.{clamps, by_lt_z}
use borrow.Author.Differences.{ints}

between_fits : (w : Width) (a b z : ℤ) → FitsSigned w a → FitsSigned w b → a ≤ℤ z → z ≤ℤ b
    → FitsSigned w z
between_fits w a (pos m) (pos n) fa fb l h = omega (arith, ints)
between_fits w a (negsuc m) (pos n) fa fb l h = absurd (omega (arith, ints))
between_fits w (pos m) b (negsuc n) fa fb l h = absurd (omega (arith, ints))
between_fits w (negsuc m) b (negsuc n) fa fb l h = omega (arith, ints)

max_fits : (w : Width) (a b : ℤ) → FitsSigned w a → FitsSigned w b → FitsSigned w (int_max a b)
max_fits w a b fa fb =
    by_lt_z a b
    (λ l. (let same : b ≡ int_max a b = omega (arith, ints, clamps) in
    subst (FitsSigned w) same fb))
    (λ l. (let same : a ≡ int_max a b = omega (arith, ints, clamps) in
    subst (FitsSigned w) same fa))

pub brought_fits : (w : Width) (a b n : ℤ) → FitsSigned w a → FitsSigned w b
    → FitsSigned w (int_max a (int_min b n))
brought_fits w a b n fa fb =
    between_fits w a (int_max a b) (int_max a (int_min b n)) fa (max_fits w a b fa fb)
    (omega (arith, ints, clamps)) (omega (arith, ints, clamps))
