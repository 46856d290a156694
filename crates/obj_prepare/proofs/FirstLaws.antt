-- The place at which a number stands first in a list.
use Rattle.std.proofs.Common.{◌≡◌, ◌≢◌, ℕ, zero, suc, ◌<◌, ◌==◌, cond, List, [], ◌∷◌, length}
use Rattle.std.proofs.lemmas.Grind.{common_steps}
use Rattle.std.proofs.Common.{get_or, arith}
use Rattle.std.proofs.lemmas.Bool.{cond-true, cond-false, eq-eqb, ne_eqb}

-- Where a number stands first in a list. Others get numbers of their own, past the list's end, so
-- no two get one.
abbrev pub first_in : List ℕ → ℕ → ℕ
first_in [] u = u
first_in (x ∷ xs) u = cond (x == u) 0 (suc (first_in xs u))

at_head : (x u : ℕ) (xs : List ℕ) → x ≡ u → first_in (x ∷ xs) u ≡ 0
at_head x u xs is = cond-true _ _ _ (eq-eqb _ _ is)

past_head : (x u : ℕ) (xs : List ℕ) → x ≢ u → first_in (x ∷ xs) u ≡ suc (first_in xs u)
past_head x u xs differ = cond-false _ _ _ (ne_eqb _ _ differ)

pub firsts_apart : (xs : List ℕ) (u v : ℕ) → first_in xs u ≡ first_in xs v → u ≡ v
firsts_apart [] u v same = same
firsts_apart (x ∷ xs) u v same =
    grind (arith, common_steps, at_head, past_head, firsts_apart xs u v)

-- A number of the list stands at its first place, and before there no such number stands.
abbrev pub StandsFirst : List ℕ → ℕ → Type 0
StandsFirst xs u = (first_in xs u < length xs) × (get_or xs (first_in xs u) 0 ≡ u)

found_past : (x : ℕ) (xs : List ℕ) (i u : ℕ) → x ≢ u
    → ((j : ℕ) → j < length xs → get_or xs j 0 ≡ u → StandsFirst xs u) → i < length (x ∷ xs)
    → get_or (x ∷ xs) i 0 ≡ u
    → (suc (first_in xs u) < length (x ∷ xs)) × (get_or xs (first_in xs u) 0 ≡ u)
found_past x xs zero u a found l at = absurd (a at)
found_past x xs (suc i) u a found l at = let (low, is) = found i (omega arith) at in
    (omega arith, is)

pub first_found : (xs : List ℕ) (i u : ℕ) → i < length xs → get_or xs i 0 ≡ u → StandsFirst xs u
first_found [] i u l at = absurd (omega arith)
first_found (x ∷ xs) i u l at =
    grind (arith, common_steps, at_head, found_past, get_or, past_head, first_found xs)

pub none_before : (xs : List ℕ) (u w : ℕ) → w < length xs → w < first_in xs u → get_or xs w 0 ≢ u
none_before [] u w l before at = omega arith
none_before (x ∷ xs) u zero l before at = let p = at_head x u xs at in omega (arith, p, before)
none_before (x ∷ xs) u (suc w) l before at =
    grind (arith, common_steps, at_head, past_head, none_before xs u w)
