-- The numerals of the first line spell their numbers.
use Rattle.std.proofs.Common.{ℕ, suc, ◌*◌, ◌/◌, ◌^◌, ◌<◌, ◌≤◌, List, ◌∷◌, ◌++◌, ℤ, pos, negsuc}
use Rattle.std.proofs.lemmas.Grind.{common_steps}
use Rattle.std.proofs.Common.{neg_ℤ, refl, arith}
use Rattle.std.specs.Prelude.{unsigned_abs, codes}
use Rattle.std.specs.Fmt.{decimal}
use Rattle.std.proofs.lemmas.Bool.{le-ltb, ne_eqb}
use Rattle.std.proofs.lemmas.Fmt.{decimal_nonempty}
use borrow.Author.Differences.{ints}
use Rattle.pm_base.specs.Canonical.{coordinate_text}
use Rattle.obj_read.specs.Coordinates.{without_sign}
use Rattle.obj_read.proofs.WrittenLaws.{IsNumberOf, decimal_digits, not_negative, whole_number}
use Rattle.obj_read.proofs.WrittenLaws.{split_number}
use Rattle.obj_prepare.specs.Exact.{AreExact}
use Rattle.obj_prepare.specs.Boxes.{extent}
use Rattle.obj_prepare.specs.declared.extents.PointBox.{PointBox}
use Rattle.obj_prepare.specs.Back.{middle, way_back_of}
use Rattle.obj_fit.specs.Texts.{scale_text, middle_text, way_text}
use Rattle.obj_fit.specs.Laws.{Spells, TellsWayBack}
use Rattle.obj_fit.proofs.HeadLaws.{extent_few}

spells_plain : (d n : ℕ) (number : List ℕ) → IsNumberOf d number n → Spells d number (pos n)
unfolding without_sign
spells_plain d n number is = grind (arith, common_steps, not_negative)

spells_minus : (d n : ℕ) (number : List ℕ) → IsNumberOf d number n
    → Spells d (45 ∷ number) (neg_ℤ (pos n))
unfolding without_sign
spells_minus d n number is = record { form = is.form; zeros = is.zeros; worth = rw is.worth refl }

spells_text : (d : ℕ) (z : ℤ) → unsigned_abs z / 10 ^ suc d < 2 ^ 64
    → Spells (suc d) (coordinate_text (suc d) z) z
unfolding coordinate_text
spells_text d (pos n) small =
    rw (ne_eqb (suc d) 0 (λ e. omega (arith, e)), le-ltb n 0 (omega arith))
    (spells_plain (suc d) n _ (split_number d n small))
spells_text d (negsuc n) small =
    rw (ne_eqb (suc d) 0 (λ e. omega (arith, e)))
    (spells_minus (suc d) (suc n) _ (split_number d (suc n) small))

spells_decimal : (n : ℕ) → n < 2 ^ 64 → Spells 0 (decimal n) (pos n)
spells_decimal n small =
    spells_plain 0 n (decimal n)
    (whole_number (decimal n) n (decimal_digits n small) (decimal_nonempty n small))

spells_middle : (low high : ℤ) → unsigned_abs low ≤ 10 ^ 32 → unsigned_abs high ≤ 10 ^ 32
    → Spells 19 (coordinate_text 19 (middle low high)) (middle low high)
spells_middle low high a b = spells_text 18 (middle low high) (omega (arith, ints, a, b))

-- The line of a box of exact points.
pub tells_way : (size : ℕ) (b : PointBox) → size ≤ 32767 → AreExact b.low → AreExact b.high
    → TellsWayBack (codes "# " ++ way_text (way_back_of size b)) (way_back_of size b)
unfolding way_text scale_text middle_text
tells_way size b few low high =
    let (a, c, e) = low in
    let (d, f, g) = high in
    record {
      extent = coordinate_text 18 (pos (extent b));
      steps = decimal (2 * size);
      x = coordinate_text 19 (middle b.low.x b.high.x);
      y = coordinate_text 19 (middle b.low.y b.high.y);
      z = coordinate_text 19 (middle b.low.z b.high.z);
      line_is = refl;
      extent_is = spells_text 17 (pos (extent b)) (omega (arith, extent_few size b few low high));
      steps_are = spells_decimal (2 * size) (omega (arith, few));
      x_is = spells_middle b.low.x b.high.x a d;
      y_is = spells_middle b.low.y b.high.y c f;
      z_is = spells_middle b.low.z b.high.z e g;
    }
