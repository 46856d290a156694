-- One line more.
use Rattle.std.proofs.Common.{◌≡◌, ℕ, zero, suc, ◌+◌, ◌<◌, List, ◌++◌, append_assoc, arith, refl}
use Rattle.std.proofs.Common.{sym}
use Rattle.std.proofs.lemmas.List.{append-nil}
use Rattle.paint.specs.Texts.{lines_below}

-- Before the first line.
pub lines_none : (line : ℕ → List ℕ) (old : List ℕ) → old ≡ old ++ lines_below line 0
unfolding lines_below
lines_none line old = sym (append-nil old)

-- After one line more.
pub lines_more : (line : ℕ → List ℕ) (n : ℕ) (old now new one : List ℕ)
    → now ≡ old ++ lines_below line n → one ≡ line n → new ≡ now ++ one
    → new ≡ old ++ lines_below line (n + 1)
unfolding lines_below
lines_more line n old now new one so is more =
    let next : n + 1 ≡ suc n = omega arith in
    rw (next, more, so, is) (append_assoc old (lines_below line n) (line n))

-- Lines that are the same one by one.
pub lines_same : (f g : ℕ → List ℕ) (n : ℕ) → ((i : ℕ) → i < n → f i ≡ g i)
    → lines_below f n ≡ lines_below g n
unfolding lines_below
lines_same f g zero same = refl
lines_same f g (suc n) same =
    rw (lines_same f g n (λ i l. same i (omega (arith, l))), same n (omega arith)) refl
