-- Laws of the index of a vertex. Byte 45 is `-`, and 47 is `/`.
use Rattle.std.proofs.Common.{◌≡◌, ℕ, Bool, true, false, ◌<◌, ◌==◌, nat_lt, List, [], ◌∷◌}
use Rattle.std.proofs.Common.{length, refl, ◌∙◌, ap, arith}
use Rattle.std.proofs.lemmas.Bool.Decides.{nat_tests}
use Rattle.pm_io.specs.Digits.{are_digits}
use Rattle.obj_lines.specs.Text.{until}
use Rattle.obj_read.specs.Coordinates.{is_negative}
use Rattle.obj_read.specs.Leading.{leading, after_digits, is_end}
use Rattle.obj_read.specs.Indices.{index_text, index_digits, has_digits}
use Rattle.obj_read.proofs.LeadingLaws.{leading_digits, leading_length, leading_before}
use Rattle.obj_read.proofs.LeadingLaws.{leading_unread}

negative_case : (b : ℕ) (bs : List ℕ) (c : Bool) → (b == 47) ≡ c
    → is_negative (until 47 (b ∷ bs)) ≡ is_negative (b ∷ bs)
negative_case b bs true is = let e : (b == 45) ≡ false = grind (arith, nat_tests) in rw (is, e) refl
negative_case b bs false is = rw is refl

-- The sign stands before the slash.
pub negative_before : (field : List ℕ) → is_negative (index_text field) ≡ is_negative field
unfolding index_text
negative_before [] = refl
negative_before (b ∷ bs) = negative_case b bs (b == 47) refl

unsigned_case : (b : ℕ) (bs : List ℕ) (minus slash : Bool) → (b == 45) ≡ minus → (b == 47) ≡ slash
    → index_digits (until 47 (b ∷ bs)) ≡ until 47 (index_digits (b ∷ bs))
unfolding index_digits
unsigned_case b bs true true is slash = absurd (grind (arith, nat_tests))
unsigned_case b bs true false is slash = rw (slash, is) refl
unsigned_case b bs false true is slash = rw (slash, is) (rw slash refl)
unsigned_case b bs false false is slash = rw (slash, is) (rw slash refl)

-- Without the sign it is cut at the slash as with it.
unsigned_before : (field : List ℕ) → index_digits (index_text field) ≡ until 47 (index_digits field)
unfolding index_text index_digits
unsigned_before [] = refl
unsigned_before (b ∷ bs) = unsigned_case b bs (b == 45) (b == 47) refl refl

-- What is read are the digits, where the index ends after them.
pub index_before : (field : List ℕ) → is_end 47 (after_digits (index_digits field)) ≡ true
    → index_digits (index_text field) ≡ leading (index_digits field)
index_before field is =
    unsigned_before field ∙ leading_before 47 (index_digits field) refl is

-- Other bytes after the digits are no index.
pub index_unread : (field : List ℕ) → is_end 47 (after_digits (index_digits field)) ≡ false
    → has_digits (index_digits (index_text field)) ≡ false
index_unread field is =
    let e : are_digits (index_digits (index_text field)) ≡ false =
    ap are_digits (unsigned_before field) ∙ leading_unread 47 (index_digits field) refl is in
    rw e refl

-- Digits stand there, and the index ends after them.
pub index_formed : (field : List ℕ) → is_end 47 (after_digits (index_digits field)) ≡ true
    → (length (after_digits (index_digits field)) == length (index_digits field)) ≡ false
    → has_digits (index_digits (index_text field)) ≡ true
index_formed field is more =
    let some : 0 < length (leading (index_digits field)) =
    grind (arith, nat_tests, leading_length (index_digits field)) in
    let e : nat_lt 0 (length (leading (index_digits field))) ≡ true = grind (arith, nat_tests) in
    rw (index_before field is, leading_digits (index_digits field), e) refl

empty_case : (field : List ℕ) (c : Bool) → is_end 47 (after_digits (index_digits field)) ≡ c
    → (length (after_digits (index_digits field)) == length (index_digits field)) ≡ true
    → has_digits (index_digits (index_text field)) ≡ false
empty_case field true is none =
    let e : nat_lt 0 (length (leading (index_digits field))) ≡ false =
    grind (arith, nat_tests, leading_length (index_digits field)) in
    rw (index_before field is, leading_digits (index_digits field), e) refl
empty_case field false is none = index_unread field is

-- No digit stands there.
pub index_empty : (field : List ℕ)
    → (length (after_digits (index_digits field)) == length (index_digits field)) ≡ true
    → has_digits (index_digits (index_text field)) ≡ false
index_empty field none =
    empty_case field (is_end 47 (after_digits (index_digits field))) refl none
