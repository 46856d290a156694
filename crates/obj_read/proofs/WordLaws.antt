-- The words of a written line: its numbers, which have at most 11 bytes.
use Rattle.std.proofs.Common.{◌≡◌, ℕ, zero, suc, ◌+◌, ◌-◌, ◌/◌, ◌%◌, ◌^◌, ◌<◌, ◌≤◌, ℤ, pos, negsuc}
use Rattle.std.proofs.Common.{Bool, true, false, ◌&&◌, nat_le, List, [], ◌∷◌, ◌++◌, length, Ok}
use Rattle.std.proofs.Common.{refl, sym, ◌∙◌, ap, arith, length-append}
use Rattle.std.specs.List.{list_all}
use Rattle.std.specs.Fmt.{decimal}
use Rattle.std.proofs.Math.Nat.{div-le_self}
use Rattle.std.proofs.lemmas.Bool.{and_parts, and_from, leb-true, le-ltb, lt-ltb, ne_eqb}
use Rattle.std.proofs.lemmas.Bool.Decides.{nat_tests}
use Rattle.std.proofs.lemmas.List.{append-nil}
use Rattle.std.proofs.lemmas.List.Folds.{list_all-append}
use Rattle.std.proofs.lemmas.Fmt.{decimal_nonempty, length-decimal-le}
use Rattle.pm_io.specs.Digits.{is_digit, are_digits}
use Rattle.pm_base.specs.Place.{is_coordinate}
use Rattle.pm_base.specs.Canonical.{last_digits, coordinate_text}
use Rattle.obj_lines.specs.Text.{until}
use Rattle.obj_lines.proofs.PlainLaws.{is_plain, are_plain}
use Rattle.obj_read.specs.Fields.{is_blank}
use Rattle.obj_read.specs.Coordinates.{is_negative, is_signed}
use Rattle.obj_read.specs.Indices.{index, index_text, index_digits}
use Rattle.obj_read.proofs.WrittenLaws.{decimal_digits, length-last_digits, last_digits_are}
use Rattle.obj_read.proofs.WrittenLaws.{no_byte, no_sign, not_negative}

-- From `-` to the digit 9.
abbrev pub is_inner : ℕ → Bool
is_inner b = nat_le 45 b && nat_le b 57

abbrev pub are_inner : List ℕ → Bool
are_inner bytes = list_all is_inner bytes

pub record IsWord (word : List ℕ) : Type 0 where
  pub inner : are_inner word ≡ true
  pub some : 0 < length word
  pub few : length word ≤ 11

pub inner_plain : (b : ℕ) → is_inner b ≡ true → is_plain b ≡ true
inner_plain b is = grind (arith, nat_tests, is)

pub inner_filled : (b : ℕ) → is_inner b ≡ true → is_blank b ≡ false
inner_filled b is = grind (arith, nat_tests, is)

pub word_plain : (word : List ℕ) → are_inner word ≡ true → are_plain word ≡ true
word_plain [] is = refl
word_plain (b ∷ bs) is =
    let parts = and_parts (is_inner b) (are_inner bs) is in
    and_from _ _ (inner_plain b parts.0) (word_plain bs parts.1)

inner_both : (xs ys : List ℕ) → are_inner xs ≡ true → are_inner ys ≡ true
    → are_inner (xs ++ ys) ≡ true
inner_both xs ys left right = list_all-append is_inner xs ys ∙ and_from _ _ left right

digits_inner : (ds : List ℕ) → are_digits ds ≡ true → are_inner ds ≡ true
digits_inner [] is = refl
digits_inner (b ∷ bs) is =
    let parts = and_parts (is_digit b) (are_digits bs) is in
    let first : is_inner b ≡ true = grind (arith, nat_tests, parts.0) in
    and_from _ _ first (digits_inner bs parts.1)

decimal_inner : (n : ℕ) → n < 2 ^ 64 → are_inner (decimal n) ≡ true
decimal_inner n lt = digits_inner (decimal n) (decimal_digits n lt).are

pub decimal_word : (n : ℕ) → n ≤ 1048576 → IsWord (decimal n)
decimal_word n most =
    let small : n < 2 ^ 64 = omega (arith, most) in
    record {
      inner = decimal_inner n small;
      some = decimal_nonempty n small;
      few = length-decimal-le 11 n (omega arith) (omega (arith, most)) small;
    }

-- What stands before the point of a coordinate, and that with a minus sign.
whole_word : (n : ℕ) → n ≤ 32767 → length (decimal n) ≤ 5
whole_word n most = length-decimal-le 5 n (omega arith) (omega (arith, most)) (omega (arith, most))

minus_word : (word : List ℕ) → are_inner word ≡ true → length word ≤ 10 → IsWord (45 ∷ word)
minus_word word inner few = record { inner = inner; some = omega arith; few = omega (arith, few) }

pointed : (d n : ℕ) → List ℕ
pointed d n = (decimal (n / 10 ^ d) ++ 46 ∷ []) ++ last_digits d (n % 10 ^ d)

record IsPointed (text : List ℕ) : Type 0 where
  inner : are_inner text ≡ true
  some : 0 < length text
  few : length text ≤ 10

pointed_is : (d n : ℕ) → d ≤ 4 → n ≤ 32767 → IsPointed (pointed d n)
unfolding pointed
pointed_is d n few most =
    let u = 10 ^ d in
    let less : n / u ≤ 32767 = omega (arith, div-le_self n u, most) in
    let whole = decimal (n / u) in
    let more = last_digits d (n % u) in
    let len = length-last_digits d (n % u) in
    let short = whole_word (n / u) less in
    record {
      inner = inner_both (whole ++ 46 ∷ []) more
          (inner_both whole (46 ∷ []) (decimal_inner (n / u) (omega (arith, less))) refl)
          (digits_inner more (last_digits_are d (n % u)));
      some = omega (arith, length-append (whole ++ 46 ∷ []) more, length-append whole (46 ∷ []));
      few = omega (
        arith,
        length-append (whole ++ 46 ∷ []) more,
        length-append whole (46 ∷ []),
        len,
        short,
        few,
      );
    }

pub coordinate_word : (digits : ℕ) (z : ℤ) → digits ≤ 4 → is_coordinate z ≡ true
    → IsWord (coordinate_text digits z)
unfolding coordinate_text pointed
coordinate_word zero (pos n) few is = decimal_word n (omega (arith, leb-true _ _ is))
coordinate_word zero (negsuc n) few is =
    let most : suc n ≤ 32767 = leb-true _ _ is in
    minus_word (decimal (suc n)) (decimal_inner (suc n) (omega (arith, most)))
    (omega (arith, whole_word (suc n) most))
coordinate_word (suc d) (pos n) few is =
    let p = pointed_is (suc d) n few (leb-true _ _ is) in
    rw (ne_eqb (suc d) 0 (λ e. omega (arith, e)), le-ltb n 0 (omega arith))
    (record { inner = p.inner; some = p.some; few = omega (arith, p.few) })
coordinate_word (suc d) (negsuc n) few is =
    let p = pointed_is (suc d) (suc n) few (leb-true _ _ is) in
    rw (ne_eqb (suc d) 0 (λ e. omega (arith, e)))
    (minus_word (pointed (suc d) (suc n)) p.inner p.few)

-- The number of a vertex, counted from 1, is read as that vertex.
pub written_index : (n v : ℕ) → v < n → n ≤ 1048576 → index n (index_text (decimal (v + 1))) ≡ Ok v
unfolding index index_text index_digits
written_index n v lt most =
    let small : v + 1 < 2 ^ 64 = omega (arith, lt, most) in
    let ds = decimal (v + 1) in
    let is = decimal_digits (v + 1) small in
    let some = decimal_nonempty (v + 1) small in
    let whole : until 47 ds ≡ ds = no_byte 47 ds (omega arith) is.are in
    let plain : is_negative ds ≡ false =
    not_negative ds (ap is_signed (sym (append-nil ds)) ∙ no_sign ds [] is.are some) in
    let one : v + 1 - 1 ≡ v = omega arith in
    rw (
      whole,
      plain,
      is.are,
      is.worth,
      lt-ltb 0 (length ds) some,
      ne_eqb (v + 1) 0 (λ e. omega (arith, e)),
      le-ltb n (v + 1) (omega (arith, lt)),
      one,
    ) refl
