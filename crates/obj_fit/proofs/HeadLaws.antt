-- The first line of the output is a comment of few bytes.
use Rattle.std.proofs.Common.{◌≡◌, ℕ, suc, ◌+◌, ◌*◌, ◌/◌, ◌%◌, ◌^◌, ◌<◌, ◌≤◌, Bool, true, false}
use Rattle.std.proofs.Common.{List, [], ◌∷◌, ◌++◌, length, ℤ, pos, refl, sym, ◌∙◌, ap, arith}
use Rattle.std.proofs.Common.{append_assoc, length-append}
use Rattle.std.specs.Prelude.{codes, unsigned_abs, int_lt}
use Rattle.std.specs.Fmt.{decimal}
use Rattle.std.proofs.lemmas.Bool.{ne_eqb}
use Rattle.std.proofs.lemmas.Fmt.{length-decimal-le}
use borrow.Author.Differences.{ints}
use Rattle.pm_base.specs.Canonical.{last_digits, minus_if, coordinate_text}
use Rattle.obj_lines.specs.Text.{until}
use Rattle.obj_lines.proofs.TextLaws.{until_front}
use Rattle.obj_read.proofs.WrittenLaws.{decimal_digits, length-last_digits, last_digits_are}
use Rattle.obj_read.proofs.WrittenLaws.{no_byte}
use Rattle.obj_prepare.specs.Exact.{AreExact}
use Rattle.obj_prepare.specs.Boxes.{extent}
use Rattle.obj_prepare.specs.declared.extents.PointBox.{PointBox}
use Rattle.obj_prepare.specs.declared.placing.Fit.{Fit}
use Rattle.obj_prepare.specs.declared.placing.Fit.TheVariants as fits
use Rattle.obj_prepare.specs.Back.{middle, middle_of, way_back_of}
use Rattle.obj_fit.specs.Texts.{scale_text, middle_text, way_text, head_line}
use Rattle.obj_fit.proofs.GridLaws.{IsMeasured}

-- No LF and no CR, and at most so many bytes.
record IsShort (most : ℕ) (text : List ℕ) : Type 0 where
  clean : until 10 text ≡ text
  plain : until 13 text ≡ text
  short : length text ≤ most

both : (m n : ℕ) (a b : List ℕ) → IsShort m a → IsShort n b → IsShort (m + n) (a ++ b)
both m n a b front back = record {
  clean = until_front 10 a b front.clean ∙ ap (λ t. a ++ t) back.clean;
  plain = until_front 13 a b front.plain ∙ ap (λ t. a ++ t) back.plain;
  short = omega (arith, length-append a b, front.short, back.short);
}

decimal_short : (n : ℕ) → n < 2 ^ 64 → IsShort 20 (decimal n)
decimal_short n few = record {
  clean = no_byte 10 (decimal n) (omega arith) (decimal_digits n few).are;
  plain = no_byte 13 (decimal n) (omega arith) (decimal_digits n few).are;
  short = length-decimal-le 20 n (omega arith) (omega (arith, few)) few;
}

minus_short : (negative : Bool) → IsShort 1 (minus_if negative)
minus_short true = record { clean = refl; plain = refl; short = omega arith }
minus_short false = record { clean = refl; plain = refl; short = omega arith }

last_digits_short : (k n : ℕ) → IsShort k (last_digits k n)
last_digits_short k n = record {
  clean = no_byte 10 (last_digits k n) (omega arith) (last_digits_are k n);
  plain = no_byte 13 (last_digits k n) (omega arith) (last_digits_are k n);
  short = omega (arith, length-last_digits k n);
}

coordinate_short : (d : ℕ) (z : ℤ) → unsigned_abs z / 10 ^ suc d < 2 ^ 64
    → IsShort (22 + suc d) (coordinate_text (suc d) z)
unfolding coordinate_text
coordinate_short d z few =
    let unit : ℕ = 10 ^ suc d in
    let n : ℕ = unsigned_abs z in
    let sign = both 1 20 (minus_if (int_lt z (pos 0))) (decimal (n / unit))
    (minus_short (int_lt z (pos 0))) (decimal_short (n / unit) few) in
    let point : IsShort 1 (codes ".") = record {
      clean = refl;
      plain = refl;
      short = omega arith;
    } in
    rw (ne_eqb (suc d) 0 (λ e. omega (arith, e)))
    (both 22 (suc d) _ (last_digits (suc d) (n % unit)) (both 21 1 _ (codes ".") sign point)
    (last_digits_short (suc d) (n % unit)))

-- The box of exact points has short texts.
module _ (size : ℕ) (b : PointBox) (few : size ≤ 32767) (low : AreExact b.low)
    (high : AreExact b.high) where
  pub extent_few : extent b ≤ 200000000000000000000000000000000
  unfolding extent
  extent_few =
      let (a, c, e) = low in
      let (d, f, g) = high in
      omega (arith, ints, a, c, e, d, f, g)

  scale_short : IsShort 88 (scale_text (way_back_of size b))
  unfolding scale_text
  scale_short =
      let e = coordinate_short 17 (pos (extent b)) (omega (arith, extent_few)) in
      let first : IsShort 13 (codes "coordinate = ") = record {
        clean = refl;
        plain = refl;
        short = omega arith;
      } in
      let over : IsShort 3 (codes " / ") = record {
        clean = refl;
        plain = refl;
        short = omega arith;
      } in
      let last : IsShort 12 (codes " * place + (") = record {
        clean = refl;
        plain = refl;
        short = omega arith;
      } in
      both 76 12 _ _
      (both 56 20 _ _ (both 53 3 _ _ (both 13 40 _ _ first e) over)
      (decimal_short (2 * size) (omega (arith, few)))) last

  axis_short : (x y : ℤ) → unsigned_abs x ≤ 10 ^ 32 → unsigned_abs y ≤ 10 ^ 32
      → IsShort 41 (coordinate_text 19 (middle x y))
  axis_short x y a c = coordinate_short 18 (middle x y) (omega (arith, ints, a, c))

  middle_short : IsShort 125 (middle_text (middle_of b))
  unfolding middle_text
  middle_short =
      let (a, c, e) = low in
      let (d, f, g) = high in
      let space : IsShort 1 (codes " ") = record {
        clean = refl;
        plain = refl;
        short = omega arith;
      } in
      both 84 41 _ _
      (both 83 1 _ _ (both 42 41 _ _ (both 41 1 _ _ (axis_short b.low.x b.high.x a d) space)
      (axis_short b.low.y b.high.y c f)) space) (axis_short b.low.z b.high.z e g)

-- A comment, with its LF.
pub record IsComment (text : List ℕ) : Type 0 where
  pub line : List ℕ
  pub line_is : until 10 line ≡ line
  pub plain : until 13 line ≡ line
  pub short : length line < 65536
  pub text_is : text ≡ (35 ∷ line) ++ 10 ∷ []

pub head_comment : (fit : Fit) → IsMeasured fit → IsComment (head_line fit)
unfolding way_text
head_comment fits.Standing measured = record {
  line = codes " coordinates as they stood";
  line_is = refl;
  plain = refl;
  short = omega arith;
  text_is = refl;
}
head_comment (fits.Scaled size b) (few, low, high) =
    let back : List ℕ = scale_text (way_back_of size b) ++ middle_text (middle_of b) in
    let end : IsShort 1 (codes ")") = record { clean = refl; plain = refl; short = omega arith } in
    let space : IsShort 1 (codes " ") = record {
      clean = refl;
      plain = refl;
      short = omega arith;
    } in
    let s = both 1 214 (codes " ") (back ++ codes ")") space
    (both 213 1 back (codes ")")
    (both 88 125 _ _ (scale_short size b few low high) (middle_short size b few low high)) end)
    in
    record {
      line = codes " " ++ (back ++ codes ")");
      line_is = s.clean;
      plain = s.plain;
      short = omega (arith, s.short);
      text_is = ap (λ (t : List ℕ). 35 ∷ 32 ∷ t) (sym (append_assoc back (41 ∷ []) (10 ∷ [])));
    }
