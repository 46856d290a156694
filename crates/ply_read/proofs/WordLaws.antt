-- Laws of the words of a text.
use Rattle.std.proofs.Common.{◌≡◌, ℕ, zero, suc, ◌<◌, true, false, List, [], ◌∷◌, length, get_or}
use Rattle.std.proofs.Common.{take, drop, refl, ap, arith}
use Rattle.ply_read.specs.Words.{is_space, from_word, word}

pub from_word_at : (bytes : List ℕ) (i : ℕ) → i < length bytes
    → ((k : ℕ) → k < i → is_space (get_or bytes k 0) ≡ true) → is_space (get_or bytes i 0) ≡ false
    → from_word bytes ≡ drop i bytes
from_word_at [] i lt blank here = absurd (omega arith)
from_word_at (b ∷ bytes) zero lt blank here = rw here refl
from_word_at (b ∷ bytes) (suc i) lt blank here =
    let first : is_space b ≡ true = blank 0 (omega arith) in
    rw first (from_word_at bytes i (omega arith) (λ k below. blank (suc k) (omega arith)) here)

pub from_word_none : (bytes : List ℕ)
    → ((k : ℕ) → k < length bytes → is_space (get_or bytes k 0) ≡ true) → from_word bytes ≡ []
from_word_none [] blank = refl
from_word_none (b ∷ bytes) blank =
    let first : is_space b ≡ true = blank 0 (omega arith) in
    rw first (from_word_none bytes (λ k below. blank (suc k) (omega arith)))

pub word_at : (bytes : List ℕ) (i : ℕ) → i < length bytes
    → ((k : ℕ) → k < i → is_space (get_or bytes k 0) ≡ false) → is_space (get_or bytes i 0) ≡ true
    → word bytes ≡ take i bytes
word_at [] i lt none here = absurd (omega arith)
word_at (b ∷ bytes) zero lt none here = rw here refl
word_at (b ∷ bytes) (suc i) lt none here =
    let first : is_space b ≡ false = none 0 (omega arith) in
    rw first (ap (λ (l : List ℕ). b ∷ l)
    (word_at bytes i (omega arith) (λ k below. none (suc k) (omega arith)) here))

pub word_all : (bytes : List ℕ)
    → ((k : ℕ) → k < length bytes → is_space (get_or bytes k 0) ≡ false) → word bytes ≡ bytes
word_all [] none = refl
word_all (b ∷ bytes) none =
    let first : is_space b ≡ false = none 0 (omega arith) in
    rw first (ap (λ (l : List ℕ). b ∷ l)
    (word_all bytes (λ k below. none (suc k) (omega arith))))
