-- Laws of the lines of a text. That a text has no LF in it is said as `until 10 text ≡ text`.
use Rattle.std.proofs.Common.{◌≡◌, ℕ, zero, suc, ◌+◌, ◌<◌, ◌≤◌, Bool, true, false, ◌==◌, List, []}
use Rattle.std.proofs.Common.{◌∷◌, ◌++◌, length, get_or, take, drop, refl, sym, ◌∙◌, ap, arith}
use Rattle.std.proofs.Common.{◌-◌, if◌then◌else◌}
use Rattle.std.proofs.lemmas.List.{length-take, length-take-le, take-take}
use Rattle.std.proofs.Math.Seq.{take-length}
use Rattle.std.proofs.lemmas.Bool.Decides.{nat_tests}
use Rattle.obj_lines.specs.Text.{until, lines, ends_with, without_cr, content}
use Rattle.pm_io.specs.Bytes.{onto}

pub until_at : (stop : ℕ) (bytes : List ℕ) (i : ℕ) → i < length bytes
    → ((k : ℕ) → k < i → (get_or bytes k 0 == stop) ≡ false) → (get_or bytes i 0 == stop) ≡ true
    → until stop bytes ≡ take i bytes
until_at stop [] i lt none here = absurd (omega arith)
until_at stop (b ∷ bytes) zero lt none here = rw here refl
until_at stop (b ∷ bytes) (suc i) lt none here =
    let first : (b == stop) ≡ false = none 0 (omega arith) in
    rw first (ap (λ (l : List ℕ). b ∷ l)
    (until_at stop bytes i (omega arith) (λ k below. none (suc k) (omega arith)) here))

pub until_none : (stop : ℕ) (bytes : List ℕ)
    → ((k : ℕ) → k < length bytes → (get_or bytes k 0 == stop) ≡ false) → until stop bytes ≡ bytes
until_none stop [] none = refl
until_none stop (b ∷ bytes) none =
    let first : (b == stop) ≡ false = none 0 (omega arith) in
    rw first (ap (λ (l : List ℕ). b ∷ l)
    (until_none stop bytes (λ k below. none (suc k) (omega arith))))

-- What holds of a text without the byte, of its first byte and of the rest.
clean_head : (stop x : ℕ) (xs : List ℕ) (b : Bool) → (x == stop) ≡ b → until stop (x ∷ xs) ≡ x ∷ xs
    → (x == stop) ≡ false
clean_head stop x xs false is clean = is
clean_head stop x xs true is clean = let e : [] ≡ x ∷ xs = rw is at clean in cc

clean_tail : (stop x : ℕ) (xs : List ℕ) → until stop (x ∷ xs) ≡ x ∷ xs → until stop xs ≡ xs
clean_tail stop x xs clean =
    let e : x ∷ until stop xs ≡ x ∷ xs =
    rw (clean_head stop x xs (x == stop) refl clean) at clean in cc

-- A front without the byte stays whole.
pub until_front : (stop : ℕ) (xs ys : List ℕ) → until stop xs ≡ xs → until stop (xs ++ ys) ≡ xs
    ++ until stop ys
until_front stop [] ys clean = refl
until_front stop (x ∷ xs) ys clean =
    rw (clean_head stop x xs (x == stop) refl clean)
    (ap (λ (l : List ℕ). x ∷ l) (until_front stop xs ys (clean_tail stop x xs clean)))

-- The first line, where its LF has come.
pub lines_whole : (text rest : List ℕ) → until 10 text ≡ text
    → lines (text ++ 10 ∷ rest) ≡ (text ++ 10 ∷ []) ∷ lines rest
lines_whole [] rest clean = refl
lines_whole (x ∷ text) rest clean =
    rw (clean_head 10 x text (x == 10) refl clean)
    (ap (onto x) (lines_whole text rest (clean_tail 10 x text clean)))

-- The last line, where no LF follows.
pub lines_last : (text : List ℕ) → until 10 text ≡ text → 0 < length text → lines text ≡ text ∷ []
lines_last [] clean some = absurd (omega arith)
lines_last (x ∷ []) clean some = rw (clean_head 10 x [] (x == 10) refl clean) refl
lines_last (x ∷ y ∷ text) clean some =
    rw (clean_head 10 x (y ∷ text) (x == 10) refl clean)
    (ap (onto x) (lines_last (y ∷ text) (clean_tail 10 x (y ∷ text) clean) (omega arith)))

-- How the first line goes on after its front.
pub record First (text rest : List ℕ) : Type 0 where
  pub line : List ℕ
  pub more : List (List ℕ)
  pub are : lines (text ++ rest) ≡ (text ++ line) ∷ more
  pub longer : 0 < length rest → 0 < length line

first_some : (b : Bool) (x : ℕ) (rest : List ℕ) → (x == 10) ≡ b → First [] (x ∷ rest)
first_some true x rest is = record {
  line = 10 ∷ [];
  more = lines rest;
  are = rw is refl;
  longer = λ some. omega arith;
}
first_some false x rest is = first_onto (lines rest) x rest refl is
  where
    first_onto : (ls : List (List ℕ)) (x : ℕ) (rest : List ℕ) → lines rest ≡ ls → (x == 10) ≡ false
        → First [] (x ∷ rest)
    first_onto [] x rest are is = record {
      line = x ∷ [];
      more = [];
      are = rw (is, are) refl;
      longer = λ some. omega arith;
    }
    first_onto (l ∷ ls) x rest are is = record {
      line = x ∷ l;
      more = ls;
      are = rw (is, are) refl;
      longer = λ some. omega arith;
    }

pub first_line : (text rest : List ℕ) → until 10 text ≡ text → 0 < length (text ++ rest)
    → First text rest
first_line [] [] clean some = absurd (omega arith)
first_line [] (x ∷ rest) clean some = first_some (x == 10) x rest refl
first_line (x ∷ []) [] clean some = record {
  line = [];
  more = [];
  are = lines_last (x ∷ []) clean (omega arith);
  longer = λ some. some;
}
first_line (x ∷ []) (y ∷ rest) clean some =
    let f = first_some (y == 10) y rest refl in
    record {
      line = f.line;
      more = f.more;
      are =
          rw (clean_head 10 x [] (x == 10) refl clean) (ap (onto x) f.are);
      longer = f.longer;
    }
first_line (x ∷ z ∷ text) rest clean some =
    let f = first_line (z ∷ text) rest (clean_tail 10 x (z ∷ text) clean) (omega arith) in
    record {
      line = f.line;
      more = f.more;
      are =
          rw (clean_head 10 x (z ∷ text) (x == 10) refl clean) (ap (onto x) f.are);
      longer = f.longer;
    }

twice_case : (stop x : ℕ) (xs : List ℕ) (b : Bool) → (x == stop) ≡ b
    → until stop (until stop xs) ≡ until stop xs
    → until stop (until stop (x ∷ xs)) ≡ until stop (x ∷ xs)
twice_case stop x xs true is more = rw is refl
twice_case stop x xs false is more = rw is (rw is (ap (λ (l : List ℕ). x ∷ l) more))

pub until_twice : (stop : ℕ) (piece : List ℕ) → until stop (until stop piece) ≡ until stop piece
until_twice stop [] = refl
until_twice stop (x ∷ xs) = twice_case stop x xs (x == stop) refl (until_twice stop xs)

cut_case : (stop x : ℕ) (xs : List ℕ) (b : Bool) → (x == stop) ≡ b
    → (length (until stop xs) < length xs → take (length (until stop xs) + 1) xs ≡ until stop xs
    ++ stop ∷ [])
    → length (until stop (x ∷ xs)) < length (x ∷ xs)
    → take (length (until stop (x ∷ xs)) + 1) (x ∷ xs) ≡ until stop (x ∷ xs) ++ stop ∷ []
cut_case stop x xs true is more lt = let e : x ≡ stop =
    grind (arith, nat_tests) in rw is (ap (λ (n : ℕ). n ∷ []) e)
cut_case stop x xs false is more lt =
    let lt2 : suc (length (until stop xs)) < suc (length xs) = rw is at lt in
    let k : suc (length (until stop xs)) + 1 ≡ suc (length (until stop xs) + 1) = omega arith in
    rw is (ap (λ (n : ℕ). take n (x ∷ xs)) k ∙ ap (λ (l : List ℕ). x ∷ l) (more (omega arith)))

-- A piece is cut behind the first such byte.
pub cut_end : (stop : ℕ) (piece : List ℕ) → length (until stop piece) < length piece
    → take (length (until stop piece) + 1) piece ≡ until stop piece ++ stop ∷ []
cut_end stop [] lt = absurd (omega arith)
cut_end stop (x ∷ xs) lt = cut_case stop x xs (x == stop) refl (cut_end stop xs) lt

no_end_case : (stop x : ℕ) (xs : List ℕ) (b : Bool) → (x == stop) ≡ b
    → (length xs ≤ length (until stop xs) → until stop xs ≡ xs)
    → length (x ∷ xs) ≤ length (until stop (x ∷ xs)) → until stop (x ∷ xs) ≡ x ∷ xs
no_end_case stop x xs true is more le = let f : suc (length xs) ≤ 0 =
    rw is at le in absurd (omega arith)
no_end_case stop x xs false is more le = let f : suc (length xs) ≤ suc (length (until stop xs)) =
    rw is at le in rw is (ap (λ (l : List ℕ). x ∷ l) (more (omega arith)))

-- A piece that is no longer than what stands before the byte doesn't have it.
pub no_end : (stop : ℕ) (piece : List ℕ) → length piece ≤ length (until stop piece)
    → until stop piece ≡ piece
no_end stop [] le = refl
no_end stop (x ∷ xs) le = no_end_case stop x xs (x == stop) refl (no_end stop xs) le

split_case : (stop x : ℕ) (xs : List ℕ) (b : Bool) → (x == stop) ≡ b
    → xs ≡ until stop xs ++ drop (length (until stop xs)) xs → x ∷ xs ≡ until stop (x ∷ xs)
    ++ drop (length (until stop (x ∷ xs))) (x ∷ xs)
split_case stop x xs true is more = rw is refl
split_case stop x xs false is more = rw is (ap (λ (l : List ℕ). x ∷ l) more)

-- What stands before the first such byte, and the rest.
pub until_split : (stop : ℕ) (xs : List ℕ) → xs ≡ until stop xs ++ drop (length (until stop xs)) xs
until_split stop [] = refl
until_split stop (x ∷ xs) = split_case stop x xs (x == stop) refl (until_split stop xs)

front_case : (stop x : ℕ) (xs : List ℕ) (b : Bool) → (x == stop) ≡ b
    → take (length (until stop xs)) xs ≡ until stop xs
    → take (length (until stop (x ∷ xs))) (x ∷ xs) ≡ until stop (x ∷ xs)
front_case stop x xs true is more = rw is refl
front_case stop x xs false is more = rw is (ap (λ (l : List ℕ). x ∷ l) more)

-- What stands before a byte is a front of the text.
until_is_front : (stop : ℕ) (xs : List ℕ) → take (length (until stop xs)) xs ≡ until stop xs
until_is_front stop [] = refl
until_is_front stop (x ∷ xs) = front_case stop x xs (x == stop) refl (until_is_front stop xs)

cr_case : (n : ℕ) (xs : List ℕ) (b : Bool) → n ≤ length xs
    → take (length (if b then take n xs else xs)) xs ≡ (if b then take n xs else xs)
cr_case n xs true le = ap (λ (k : ℕ). take k xs) (length-take-le n xs le)
cr_case n xs false le = take-length xs

front_of : (front middle whole : List ℕ) → take (length front) middle ≡ front
    → take (length middle) whole ≡ middle → take (length front) whole ≡ front
front_of front middle whole first second =
    let le : length front ≤ length middle =
    omega (arith, ap length first, length-take (length front) middle) in
    sym (take-take (length front) (length middle) whole le)
    ∙ ap (take (length front)) second ∙ first

-- What is read of a line is a front of it.
pub content_is_front : (text : List ℕ) → take (length (content text)) text ≡ content text
unfolding content without_cr
content_is_front text =
    front_of (content text) (without_cr text) text (until_is_front 35 (without_cr text))
    (cr_case (length text - 1) text (ends_with 13 text) (omega arith))

pub content_within : (text : List ℕ) → length (content text) ≤ length text
content_within text =
    omega (arith, ap length (content_is_front text), length-take (length (content text)) text)
