-- Places between two places: their bounds, and both ends of the way.
use Rattle.std.proofs.Common.{◌≡◌, ℕ, suc, ◌-◌, ◌*◌, ◌/◌, ◌<◌, ◌≤◌, refl, ap, ◌∙◌, arith}
use Rattle.std.proofs.lemmas.Grind.{common_steps}
use Rattle.std.specs.Prelude.{ℤ, pos, negsuc, ◌+ℤ◌, ◌*ℤ◌, unsigned_abs}
use Rattle.std.specs.Int.{int_div_euclid}
use Rattle.std.proofs.Math.IntN.{pos-*ℤ-pos}
use Rattle.std.proofs.Math.Nat.{mul-div-le, div-le_of_le-mul, mul-div_cancel_left, div-eq_of_lt-le}
use borrow.Author.Differences.{ints, product_is}
use Rattle.std.proofs.lemmas.Int.{unsigned_abs-mul}
use Rattle.std.proofs.lemmas.Nat.{mul-le}
use Rattle.pm_base.proofs.Squares.{abs_plus}
use Rattle.pm_base.specs.Place.{Place}
use Rattle.pm_morph.specs.Interpolation.{interpolated, place_between}

pub weighed_small : (w : ℕ) (c : ℤ) → unsigned_abs c ≤ 32767 → unsigned_abs (pos w *ℤ c) ≤ w * 32767
weighed_small w c small =
    rw unsigned_abs-mul (mul-le w (unsigned_abs c) w 32767 (omega arith) small)

pub sum_small : (a b : ℕ) (x y : ℤ) → a ≤ b → unsigned_abs x ≤ (b - a) * 32767
    → unsigned_abs y ≤ a * 32767 → unsigned_abs (x +ℤ y) ≤ b * 32767
sum_small a b x y l p q = omega (arith, abs_plus x y)

pub way_small : (a b : ℕ) (elder own : ℤ) → a ≤ b → unsigned_abs elder ≤ 32767
    → unsigned_abs own ≤ 32767 → unsigned_abs (pos (b - a) *ℤ elder +ℤ pos a *ℤ own) ≤ b * 32767
way_small a b elder own l p q =
    sum_small a b (pos (b - a) *ℤ elder) (pos a *ℤ own) l (weighed_small (b - a) elder p)
    (weighed_small a own q)

div_small : (n b : ℕ) → n ≤ b * 32767 → n / b ≤ 32767
div_small n b l = div-le_of_le-mul b l

div_less : (n b : ℕ) → n < b * 32767 → n / b < 32767
div_less n b l = grind (arith, common_steps, mul-div-le, mul-le)

pub part_small : (z : ℤ) (b : ℕ) → 0 < b → unsigned_abs z ≤ b * 32767
    → unsigned_abs (int_div_euclid z (pos b)) ≤ 32767
part_small (pos n) b some small = div_small n b small
part_small (negsuc n) b some small = let l = div_less n b (omega arith) in omega arith

-- A multiple of b is shared out evenly.
negative : (b n : ℕ) → 0 < b → pos b *ℤ negsuc n ≡ negsuc (b * suc n - 1)
negative b n some = omega (arith, ints, product_is (pos b) (negsuc n))

pub shared : (b : ℕ) (o : ℤ) → 0 < b → int_div_euclid (pos b *ℤ o) (pos b) ≡ o
shared b (pos n) some = ap (λ z. int_div_euclid z (pos b)) (pos-*ℤ-pos b n)
    ∙ ap pos (mul-div_cancel_left n some)
shared b (negsuc n) some = ap (λ z. int_div_euclid z (pos b)) (negative b n some)
    ∙ ap negsuc (div-eq_of_lt-le b (omega arith) (omega arith))

nothing : (z : ℤ) → pos 0 *ℤ z ≡ pos 0
nothing z = omega (arith, ints, product_is (pos 0) z)

pub at_end : (b : ℕ) (elder own : ℤ) → 0 < b → interpolated b b elder own ≡ own
at_end b elder own some = grind (arith, common_steps, nothing elder, shared b own some)

pub at_start : (b : ℕ) (elder own : ℤ) → 0 < b → interpolated 0 b elder own ≡ elder
at_start b elder own some = grind (arith, common_steps, nothing own, shared b elder some)

pub place_at_end : (b : ℕ) (elder own : Place) → 0 < b → place_between b b elder own ≡ own
place_at_end b elder own some =
    rw (at_end b elder.x own.x some, at_end b elder.y own.y some, at_end b elder.z own.z some) refl

pub place_at_start : (b : ℕ) (elder own : Place) → 0 < b → place_between 0 b elder own ≡ elder
place_at_start b elder own some =
    rw (at_start b elder.x own.x some, at_start b elder.y own.y some, at_start b elder.z own.z some)
    refl
