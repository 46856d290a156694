-- Counting the numbers that begin something: one more, one of a row, one a root.
use Rattle.std.proofs.Common.{◌≡◌, ◌≢◌, ℕ, zero, suc, ◌+◌, ◌<◌, ◌≤◌, eqb, Bool, true, false, List}
use Rattle.std.proofs.Common.{[], ◌∷◌, length, sum, All, ◌||◌, inl, inr, refl, sym, ◌∙◌, arith}
use Rattle.std.proofs.lemmas.Grind.{common_steps}
use Rattle.std.proofs.lemmas.Bool.{cases_eq, eq-eqb, ne_eqb, lt-ltb, le-ltb}
use Rattle.pm_base.specs.Counts.{count}
use Rattle.pm_base.proofs.Counts.{count-true, count-false, count_same}
use Rattle.pm_forest.specs.Forest.{root_interval, root_of}
use Rattle.pm_forest.proofs.OwnerLaws.{sum-cons}

-- one number more that passes
pub count_more_one : (p q : ℕ → Bool) (c n : ℕ) → c < n → p c ≡ false → q c ≡ true →
    ((x : ℕ) → x < n → x ≢ c → q x ≡ p x) → count q n ≡ suc (count p n)
count_more_one p q c zero l at_p at_q same = absurd (omega arith)
count_more_one p q c (suc n) l at_p at_q same =
    elim (cases_eq n c) [
      | inl is ↦ grind (arith, common_steps, count-false, count-true, count_same)
      | inr ne ↦
          grind (arith, common_steps, count-false, count-true, count_more_one p q c n)
    ]

-- of w numbers from a on the first alone passes
count_first : (p : ℕ → Bool) (a w : ℕ) → p a ≡ true
    → ((x : ℕ) → a < x → x < a + suc w → p x ≡ false) → count p (a + suc w) ≡ suc (count p a)
count_first p a zero first others =
    let next : a + 1 ≡ suc a = omega arith in
    rw next (count-true p a first)
count_first p a (suc w) first others =
    let next : a + suc (suc w) ≡ suc (a + suc w) = omega arith in
    let last = others (a + suc w) (omega arith) (omega arith) in
    rw next
    (count-false p (a + suc w) last
    ∙ count_first p a w first (λ x b c. others x b (omega arith)))

-- as many leaves are the first of their root as there are roots
pub count_roots : (p : ℕ → Bool) (ws : List ℕ) (start : ℕ) → All (λ w. 0 < w) ws →
    ((x : ℕ) → start ≤ x → x < start + sum ws
    → p x ≡ eqb (root_interval ws start (root_of ws start x)).from x) →
    count p (start + sum ws) ≡ count p start + length ws
count_roots p [] start wide is = let none : start + sum [] ≡ start =
    omega arith in rw none (omega arith)
count_roots p (zero ∷ ws) start wide is = let never : 0 < 0 =
    wide 0 0 (omega arith) in absurd (omega arith)
count_roots p (suc w ∷ ws) start wide is =
    let all = sum-cons (suc w) ws in
    let first : p start ≡ true = grind (arith, common_steps, eq-eqb, lt-ltb) in
    let others : (x : ℕ) → start < x → x < start + suc w → p x ≡ false = λ x a b.
    let differs : start ≢ x = omega arith in
    is x (omega arith) (omega arith) ∙ (rw (lt-ltb x (start + suc w) b) (ne_eqb start x differs)) in
    let one = count_first p start w first others in
    let later : (x : ℕ) → start + suc w ≤ x → x < start + suc w + sum ws
    → p x ≡ eqb (root_interval ws (start + suc w) (root_of ws (start + suc w) x)).from x =
    λ x a b.
    is x (omega arith) (omega arith) ∙ (rw (le-ltb x (start + suc w) a)) in
    let more = count_roots p ws (start + suc w) (λ k d l. wide (suc k) d (omega arith)) later in
    let place : start + sum (suc w ∷ ws) ≡ start + suc w + sum ws = omega arith in
    rw place (omega arith)

-- a root ends where the next one begins
pub root_next : (ws : List ℕ) (start v : ℕ) → suc v < length ws
    → (root_interval ws start v).until ≡ (root_interval ws start (suc v)).from
root_next [] start v l = absurd (omega arith)
root_next (w ∷ []) start v l = absurd (omega arith)
root_next (w ∷ x ∷ ws) start zero l = refl
root_next (w ∷ x ∷ ws) start (suc v) l = root_next (x ∷ ws) (start + w) v (omega arith)

pub root_last : (ws : List ℕ) (start v : ℕ) → suc v ≡ length ws
    → (root_interval ws start v).until ≡ start + sum ws
root_last [] start v is = absurd (omega arith)
root_last (w ∷ []) start zero is = omega (arith, sum-cons w [])
root_last (w ∷ []) start (suc v) is = absurd (omega arith)
root_last (w ∷ x ∷ ws) start zero is = absurd (omega arith)
root_last (w ∷ x ∷ ws) start (suc v) is =
    omega (arith, sum-cons w (x ∷ ws), root_last (x ∷ ws) (start + w) v (omega arith))

pub turned : (a b : ℕ) → eqb a b ≡ eqb b a || false
turned a b =
    elim (cases_eq a b) [
      | inl is ↦ (rw (eq-eqb a b is, eq-eqb b a (sym is)) refl)
      | inr ne ↦ (rw (ne_eqb a b ne, ne_eqb b a (λ z. ne (sym z))) refl)
    ]
