-- Words to bytes and back.
use Rattle.std.proofs.Common.{◌≡◌, ℕ, zero, suc, ◌+◌, ◌*◌, ◌^◌, ◌<◌, ◌≤◌, List, [], ◌∷◌, ◌++◌}
use Rattle.std.proofs.lemmas.Grind.{common_steps}
use Rattle.std.proofs.Common.{length, get_or, take, refl, sym, ap, arith, append_assoc}
use Rattle.std.proofs.lemmas.Nat.{le_bytes_4, from_le_bytes-to_le_bytes_4}
use Rattle.byteorder.specs.Endian.{little_bytes}
use Rattle.pm_format.specs.Words.{words_of, spelled, AreWords, IsBytes}

four_fit : (a b c d : ℕ) → a < 256 → b < 256 → c < 256 → d < 256 → (i : ℕ) →
    get_or (a ∷ b ∷ c ∷ d ∷ []) i 0 < 256
four_fit a b c d ha hb hc hd zero = ha
four_fit a b c d ha hb hc hd (suc zero) = hb
four_fit a b c d ha hb hc hd (suc (suc zero)) = hc
four_fit a b c d ha hb hc hd (suc (suc (suc zero))) = hd
four_fit a b c d ha hb hc hd (suc (suc (suc (suc i)))) = omega arith

-- four bytes are those of their number
four : (a b c d : ℕ) → a < 256 → b < 256 → c < 256 → d < 256 →
    little_bytes 4 (a + 256 * (b + 256 * (c + 256 * d))) ≡ a ∷ b ∷ c ∷ d ∷ []
four a b c d ha hb hc hd =
    le_bytes_4 (a ∷ b ∷ c ∷ d ∷ []) _ refl (four_fit a b c d ha hb hc hd) (omega arith)

-- the number of a word's bytes is the word
again : (w : ℕ) (rest : List ℕ) → w < 2 ^ 32 → words_of (little_bytes 4 w ++ rest) ≡ w
    ∷ words_of rest
again w rest lt =
    ap (λ (n : ℕ). n ∷ words_of rest) (omega (arith, from_le_bytes-to_le_bytes_4 w lt))

pub words_again : (ws rest : List ℕ) → AreWords ws → words_of (spelled ws ++ rest) ≡ ws
    ++ words_of rest
unfolding spelled
words_again [] rest all = refl
words_again (w ∷ ws) rest all =
    grind (arith, common_steps, again, append_assoc, words_again ws rest all.1)

-- a text begins with the bytes of its words
pub words_take : (bytes : List ℕ) (k : ℕ) → IsBytes bytes → k ≤ length (words_of bytes) →
    take (4 * k) bytes ≡ spelled (take k (words_of bytes))
unfolding spelled
words_take bytes zero fits le = refl
words_take [] (suc k) fits le = absurd (omega arith)
words_take (a ∷ []) (suc k) fits le = absurd (omega arith)
words_take (a ∷ b ∷ []) (suc k) fits le = absurd (omega arith)
words_take (a ∷ b ∷ c ∷ []) (suc k) fits le = absurd (omega arith)
words_take (a ∷ b ∷ c ∷ d ∷ rest) (suc k) fits le =
    let n : 4 * suc k ≡ suc (suc (suc (suc (4 * k)))) = omega arith in
    let others = words_take rest k (λ i. fits (suc (suc (suc (suc i))))) (omega arith) in
    let first = four a b c d (fits 0) (fits 1) (fits 2) (fits 3) in
    rw n (rw others (ap (λ (l : List ℕ). l ++ spelled (take k (words_of rest))) (sym first)))

pub text_words : (bytes : List ℕ) → IsBytes bytes → AreWords (words_of bytes)
text_words (a ∷ b ∷ c ∷ d ∷ rest) fit = (
  omega (arith, fit 0, fit 1, fit 2, fit 3),
  text_words rest (λ i. fit (suc (suc (suc (suc i))))),
)
text_words [] fit = tt
text_words (a ∷ []) fit = tt
text_words (a ∷ b ∷ []) fit = tt
text_words (a ∷ b ∷ c ∷ []) fit = tt

pub length-words_of : (bytes : List ℕ) → 4 * length (words_of bytes) ≤ length bytes
length-words_of (a ∷ b ∷ c ∷ d ∷ rest) = omega (arith, length-words_of rest)
length-words_of [] = omega arith
length-words_of (a ∷ []) = omega arith
length-words_of (a ∷ b ∷ []) = omega arith
length-words_of (a ∷ b ∷ c ∷ []) = omega arith

pub length-spelled : (ws : List ℕ) → length (spelled ws) ≡ 4 * length ws
unfolding spelled
length-spelled [] = refl
length-spelled (w ∷ ws) = omega (arith, length-spelled ws)

pub words_append : (a b : List ℕ) → AreWords a → AreWords b → AreWords (a ++ b)
words_append [] b first second = second
words_append (w ∷ a) b first second = (first.0, words_append a b first.1 second)
