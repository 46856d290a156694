-- Words that are read at once.
use Rattle.std.proofs.Common.{◌≡◌, ℕ, suc, ◌+◌, ◌*◌, List, [], ◌∷◌, ◌++◌, length, refl, arith}
use Rattle.byteorder.specs.Endian.{IsRead, little_number}
use Rattle.pm_format.specs.Words.{words_of}

-- the words of a text are those read of its first bytes, and then those of the other bytes
pub words_front : (ws front rest : List ℕ) → length front ≡ 4 * length ws →
    IsRead little_number 4 front ws → words_of (front ++ rest) ≡ ws ++ words_of rest
words_front [] [] rest len read = refl
words_front [] (a ∷ front) rest len read = absurd (omega arith)
words_front (w ∷ ws) [] rest len read = absurd (omega arith)
words_front (w ∷ ws) (a ∷ []) rest len read = absurd (omega arith)
words_front (w ∷ ws) (a ∷ b ∷ []) rest len read = absurd (omega arith)
words_front (w ∷ ws) (a ∷ b ∷ c ∷ []) rest len read = absurd (omega arith)
words_front (w ∷ ws) (a ∷ b ∷ c ∷ d ∷ front) rest len read =
    let four : (k : ℕ) → 4 * suc k ≡ suc (suc (suc (suc (4 * k)))) = λ k. omega arith in
    let first : w ≡ a + 256 * (b + 256 * (c + 256 * d)) = omega (arith, read 0 (omega arith)) in
    let later : IsRead little_number 4 front ws =
    λ k l. rw (four k) at (read (suc k) (omega arith)) in
    let others = words_front ws front rest (omega arith) later in
    rw (first, others) refl
