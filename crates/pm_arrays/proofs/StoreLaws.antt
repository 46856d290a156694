-- What stands behind numbers that are stored one after the other.
use Rattle.std.proofs.Common.{◌≡◌, ℕ, ◌+◌, ◌-◌, ◌*◌, ◌≤◌, ◌++◌, ◌∷◌, []}
use Rattle.std.proofs.Common.{List, take, drop, sym, ap, ◌∙◌, arith, append_assoc}
use Rattle.std.proofs.lemmas.List.{drop-drop}

-- What stayed behind a place stays behind a later one.
pub further_behind : {X : Type 0} (m n : ℕ) (new old : List X) → m ≤ n
    → drop m new ≡ drop m old → drop n new ≡ drop n old
further_behind m n new old later same =
    let there : m + (n - m) ≡ n = omega arith in
    ap (λ k. drop k new) (sym there) ∙ sym (drop-drop (n - m) m new)
    ∙ ap (λ xs. drop (n - m) xs) same ∙ drop-drop (n - m) m old ∙ ap (λ k. drop k old) there

-- Behind three numbers that are stored one after the other.
pub three_behind : {X : Type 0} (n : ℕ) (d c b a : List X)
    → drop (3 * n + 1) b ≡ drop (3 * n + 1) a
    → drop (3 * n + 1 + 1) c ≡ drop (3 * n + 1 + 1) b
    → drop (3 * n + 2 + 1) d ≡ drop (3 * n + 2 + 1) c
    → drop (3 * (n + 1)) d ≡ drop (3 * (n + 1)) a
three_behind n d c b a one two three =
    further_behind (3 * n + 2 + 1) (3 * (n + 1)) d c (omega arith) three
    ∙ further_behind (3 * n + 1 + 1) (3 * (n + 1)) c b (omega arith) two
    ∙ further_behind (3 * n + 1) (3 * (n + 1)) b a (omega arith) one

-- The three numbers themselves.
pub three_stored : {X : Type 0} (n : ℕ) (d c b a : List X) (x y z : X)
    → take (3 * n + 1) b ≡ take (3 * n) a ++ x ∷ []
    → take (3 * n + 1 + 1) c ≡ take (3 * n + 1) b ++ y ∷ []
    → take (3 * n + 2 + 1) d ≡ take (3 * n + 2) c ++ z ∷ []
    → take (3 * (n + 1)) d ≡ take (3 * n) a ++ x ∷ y ∷ z ∷ []
three_stored n d c b a x y z one two three =
    let last : 3 * (n + 1) ≡ 3 * n + 2 + 1 = omega arith in
    let next : 3 * n + 2 ≡ 3 * n + 1 + 1 = omega arith in
    ap (λ k. take k d) last ∙ three
    ∙ ap (λ xs. xs ++ z ∷ []) (ap (λ k. take k c) next ∙ two ∙ ap (λ xs. xs ++ y ∷ []) one)
    ∙ simp append_assoc
