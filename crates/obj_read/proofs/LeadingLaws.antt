-- Laws of the digits at the front of a text.
use Rattle.std.proofs.Common.{◌≡◌, ℕ, suc, ◌+◌, ◌-◌, ◌*◌, min, Bool, true, false, ◌==◌}
use Rattle.std.proofs.Common.{List, [], ◌∷◌, ◌++◌, length, drop, refl, sym, ◌∙◌, ap, subst, arith}
use Rattle.std.proofs.Common.{append-nil}
use Rattle.std.proofs.lemmas.Bool.Decides.{nat_tests}
use Rattle.pm_io.specs.Digits.{is_digit, are_digits, value}
use Rattle.pm_io.proofs.DigitLaws.{value_cut}
use Rattle.obj_lines.specs.Text.{until}
use Rattle.obj_read.specs.Leading.{leading, after_digits, is_end}

front_case : (b : ℕ) (bs : List ℕ) (c : Bool) → is_digit b ≡ c → are_digits (leading bs) ≡ true
    → are_digits (leading (b ∷ bs)) ≡ true
front_case b bs true is more = rw is (rw is more)
front_case b bs false is more = rw is refl

pub leading_digits : (text : List ℕ) → are_digits (leading text) ≡ true
leading_digits [] = refl
leading_digits (b ∷ bs) = front_case b bs (is_digit b) refl (leading_digits bs)

length_case : (b : ℕ) (bs : List ℕ) (c : Bool) → is_digit b ≡ c
    → length (leading bs) + length (after_digits bs) ≡ length bs
    → length (leading (b ∷ bs)) + length (after_digits (b ∷ bs)) ≡ length (b ∷ bs)
length_case b bs true is more = rw is (omega (arith, more))
length_case b bs false is more = rw is (omega arith)

-- The digits, and what stands after them, are the text.
pub leading_length : (text : List ℕ)
    → length (leading text) + length (after_digits text) ≡ length text
leading_length [] = refl
leading_length (b ∷ bs) = length_case b bs (is_digit b) refl (leading_length bs)

-- A byte that is no digit isn't among them.
not_stop : (stop b : ℕ) → is_digit stop ≡ false → is_digit b ≡ true → (b == stop) ≡ false
not_stop stop b none is = grind (arith, nat_tests)

until_case : (stop b : ℕ) (bs : List ℕ) (c : Bool) → is_digit stop ≡ false → is_digit b ≡ c
    → until stop bs ≡ leading bs ++ until stop (after_digits bs)
    → until stop (b ∷ bs) ≡ leading (b ∷ bs) ++ until stop (after_digits (b ∷ bs))
until_case stop b bs true none is more =
    rw (is, not_stop stop b none is) (ap (λ (l : List ℕ). b ∷ l) more)
until_case stop b bs false none is more = rw is refl

-- What stands before such a byte begins with the digits.
pub until_leading : (stop : ℕ) (text : List ℕ) → is_digit stop ≡ false
    → until stop text ≡ leading text ++ until stop (after_digits text)
until_leading stop [] none = refl
until_leading stop (b ∷ bs) none =
    until_case stop b bs (is_digit b) none refl (until_leading stop bs none)

-- One digit more was read.
pub number_step : (text after : List ℕ) (n digit next most : ℕ)
    → leading text ≡ (48 + digit) ∷ leading after → next ≡ min (10 * n + digit) most
    → min (value next (leading after)) most ≡ min (value n (leading text)) most
number_step text after n digit next most first is =
    let e : 10 * n + (48 + digit - 48) ≡ 10 * n + digit = omega arith in
    rw (is, first) (value_cut (10 * n + digit) most (leading after)
    ∙ ap (λ (m : ℕ). min (value m (leading after)) most) (sym e))

-- The bytes after a number's digits begin with none.
after_case : (b : ℕ) (bs : List ℕ) (first : ℕ) (rest : List ℕ) (c : Bool) → is_digit b ≡ c
    → (after_digits bs ≡ first ∷ rest → is_digit first ≡ false)
    → after_digits (b ∷ bs) ≡ first ∷ rest → is_digit first ≡ false
after_case b bs first rest true is more at = more (rw is at at)
after_case b bs first rest false is more at =
    let e : b ∷ bs ≡ first ∷ rest = rw is at at in
    let same : b ≡ first = cc in subst (λ (d : ℕ). is_digit d ≡ false) same is

pub after_none : (text : List ℕ) (first : ℕ) (rest : List ℕ) → after_digits text ≡ first ∷ rest
    → is_digit first ≡ false
after_none [] first rest at = absurd cc
after_none (b ∷ bs) first rest at =
    after_case b bs first rest (is_digit b) refl (after_none bs first rest) at

-- Digits before others are digits where the others are.
digits_case : (b : ℕ) (bs more : List ℕ) (c : Bool) → is_digit b ≡ c
    → are_digits (leading bs ++ more) ≡ are_digits more
    → are_digits (leading (b ∷ bs) ++ more) ≡ are_digits more
digits_case b bs more true is so = rw is (rw is so)
digits_case b bs more false is so = rw is refl

pub digits_after : (text more : List ℕ) → are_digits (leading text ++ more) ≡ are_digits more
digits_after [] more = refl
digits_after (b ∷ bs) more = digits_case b bs more (is_digit b) refl (digits_after bs more)

-- Without the digits and some bytes after them.
pub drop_leading : (text : List ℕ) (k : ℕ)
    → drop (length (leading text) + k) text ≡ drop k (after_digits text)
drop_leading [] k = let e : 0 + k ≡ k = omega arith in rw e refl
drop_leading (b ∷ bs) k = drop_case b bs k (is_digit b) refl (drop_leading bs k)
  where
    drop_case : (b : ℕ) (bs : List ℕ) (k : ℕ) (c : Bool) → is_digit b ≡ c
        → drop (length (leading bs) + k) bs ≡ drop k (after_digits bs)
        → drop (length (leading (b ∷ bs)) + k) (b ∷ bs) ≡ drop k (after_digits (b ∷ bs))
    drop_case b bs k true is more =
        let e : suc (length (leading bs)) + k ≡ suc (length (leading bs) + k) = omega arith in
        rw (is, e) more
    drop_case b bs k false is more = let e : 0 + k ≡ k = omega arith in rw (is, e) refl

ended : (stop : ℕ) (rest : List ℕ) → is_end stop rest ≡ true → until stop rest ≡ []
ended stop [] is = refl
ended stop (b ∷ bs) is = rw is refl

-- What stands before such a byte are the digits, where it stands after them or nothing does.
pub leading_before : (stop : ℕ) (text : List ℕ) → is_digit stop ≡ false
    → is_end stop (after_digits text) ≡ true → until stop text ≡ leading text
leading_before stop text none is =
    until_leading stop text none
    ∙ ap (λ (l : List ℕ). leading text ++ l) (ended stop (after_digits text) is)
    ∙ append-nil (leading text)

unread_case : (stop : ℕ) (text rest : List ℕ) → after_digits text ≡ rest
    → is_end stop rest ≡ false → are_digits (until stop rest) ≡ false
unread_case stop text [] at is = absurd cc
unread_case stop text (b ∷ bs) at is = rw (is, after_none text b bs at) refl

-- Other bytes after the digits stand before it too.
pub leading_unread : (stop : ℕ) (text : List ℕ) → is_digit stop ≡ false
    → is_end stop (after_digits text) ≡ false → are_digits (until stop text) ≡ false
leading_unread stop text none is =
    ap are_digits (until_leading stop text none)
    ∙ digits_after text (until stop (after_digits text))
    ∙ unread_case stop text (after_digits text) refl is
