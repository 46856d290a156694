-- What is read of a text without special bytes, and of a comment; and the bytes of the lines of a
-- text.
use Rattle.std.proofs.Common.{◌≡◌, ℕ, suc, ◌-◌, ◌<◌, Bool, true, false, not, ◌==◌, ◌&&◌, nat_le}
use Rattle.std.proofs.Common.{List, [], ◌∷◌, length, get_or, refl, sym, ◌∙◌, ap, arith}
use Rattle.std.specs.List.{list_all, concat}
use Rattle.std.proofs.lemmas.Bool.{true≢false, and_parts, eqb-true, ne_eqb, true_from_ne_false}
use Rattle.std.proofs.lemmas.List.Folds.{list_all_at}
use Rattle.obj_lines.specs.Text.{until, lines, ends_with, without_cr, content, is_continued}
use Rattle.pm_io.specs.Bytes.{onto}

-- A byte that isn't special: no control byte, no `#`, and no backslash.
abbrev pub is_plain : ℕ → Bool
is_plain b = nat_le 32 b && not (b == 35) && not (b == 92)

abbrev pub are_plain : List ℕ → Bool
are_plain bytes = list_all is_plain bytes

apart : (stop b : ℕ) → is_plain stop ≡ false → is_plain b ≡ true → (b == stop) ≡ false
apart stop b special plain = ne_eqb b stop (λ e. true≢false (sym plain ∙ ap is_plain e ∙ special))

lacks : (stop : ℕ) (xs : List ℕ) → is_plain stop ≡ false → are_plain xs ≡ true → until stop xs ≡ xs
lacks stop [] special plain = refl
lacks stop (b ∷ bs) special plain =
    let parts = and_parts (is_plain b) (are_plain bs) plain in
    rw (apart stop b special parts.0) (ap (λ (l : List ℕ). b ∷ l) (lacks stop bs special parts.1))

ends_plain : (stop : ℕ) (xs : List ℕ) → is_plain stop ≡ false → 0 < length xs → are_plain xs ≡ true
    → ends_with stop xs ≡ false
ends_plain stop xs special some plain =
    let last = get_or xs (length xs - 1) 0 in
    let is : is_plain last ≡ true =
    true_from_ne_false _
    (λ e. true≢false
    (sym plain ∙ list_all_at is_plain xs (length xs - 1) 0 (omega (arith, some)) e)) in
    apart stop last special is

-- A text that is read as it stands: it has no LF, no CR at its end, no comment, and no backslash at
-- its end.
pub record IsReadWhole (text : List ℕ) : Type 0 where
  pub clean : until 10 text ≡ text
  pub read : content text ≡ text
  pub ended : is_continued text ≡ false

pub plain_text : (text : List ℕ) → 0 < length text → are_plain text ≡ true → IsReadWhole text
unfolding content without_cr is_continued
plain_text text some plain = record {
  clean = lacks 10 text refl plain;
  read = rw (ends_plain 13 text refl some plain) (lacks 35 text refl plain);
  ended = ends_plain 92 text refl some plain;
}

-- Nothing is read of a line that begins with `#`.
comment_case : (line : List ℕ) (b : Bool) → ends_with 13 (35 ∷ line) ≡ b → content (35 ∷ line) ≡ []
unfolding content without_cr
comment_case line false is = rw is refl
comment_case [] true is = refl
comment_case (x ∷ xs) true is =
    let n : length (35 ∷ x ∷ xs) - 1 ≡ suc (length xs) = omega arith in
    rw (is, n) refl

pub comment_read : (line : List ℕ) → content (35 ∷ line) ≡ []
comment_read line = comment_case line (ends_with 13 (35 ∷ line)) refl

-- The lines of a text have its bytes.
joined_onto : (b : ℕ) (ls : List (List ℕ)) → concat (onto b ls) ≡ b ∷ concat ls
joined_onto b [] = refl
joined_onto b (l ∷ ls) = refl

joined_case : (x : ℕ) (xs : List ℕ) (b : Bool) → (x == 10) ≡ b → concat (lines xs) ≡ xs
    → concat (lines (x ∷ xs)) ≡ x ∷ xs
joined_case x xs true is same =
    rw is (ap (λ (l : List ℕ). 10 ∷ l) same ∙ ap (λ (n : ℕ). n ∷ xs) (sym (eqb-true x 10 is)))
joined_case x xs false is same = rw is (joined_onto x (lines xs) ∙ ap (λ (l : List ℕ). x ∷ l) same)

pub lines_joined : (bytes : List ℕ) → concat (lines bytes) ≡ bytes
lines_joined [] = refl
lines_joined (x ∷ xs) = joined_case x xs (x == 10) refl (lines_joined xs)
