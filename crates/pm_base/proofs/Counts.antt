-- Counting numbers that pass a test, and those that a walk has met.
use Rattle.std.proofs.Common.{◌≡◌, ◌≢◌, ℕ, zero, suc, ◌+◌, ◌<◌, ◌≤◌, eqb, Bool, true, false, ◌||◌}
use Rattle.std.proofs.lemmas.Grind.{common_steps}
use Rattle.std.proofs.Common.{inl, inr, refl, sym, ap, ◌∙◌, arith}
use Rattle.std.proofs.lemmas.Bool.{eqb-true, eq-eqb, ne_eqb, cases_eq}
use Rattle.std.proofs.lemmas.Bool.{false≢true, or_cases, or_left, or_right}
use Rattle.pm_base.specs.Counts.{one_if, count}

pub one_if-le : (b : Bool) → one_if b ≤ 1
one_if-le true = omega arith
one_if-le false = omega arith

pub count-true : (p : ℕ → Bool) (n : ℕ) → p n ≡ true → count p (suc n) ≡ suc (count p n)
unfolding count
count-true p n e = let h : one_if (p n) + count p n ≡ 1 + count p n =
    ap (λ b. one_if b + count p n) e in omega arith

pub count-false : (p : ℕ → Bool) (n : ℕ) → p n ≡ false → count p (suc n) ≡ count p n
unfolding count
count-false p n e = let h : one_if (p n) + count p n ≡ 0 + count p n =
    ap (λ b. one_if b + count p n) e in omega arith

pub count-zero : (p : ℕ → Bool) → count p zero ≡ 0
unfolding count
count-zero p = refl

pub count_le : (p : ℕ → Bool) (n : ℕ) → count p n ≤ n
count_le p zero = let a = count-zero p in omega arith
count_le p (suc n) = grind (arith, common_steps, count-false, count-true, count_le p n)

pub count_same : (p q : ℕ → Bool) (n : ℕ) → ((i : ℕ) → i < n → p i ≡ q i) → count p n ≡ count q n
count_same p q zero h = count-zero p ∙ sym (count-zero q)
count_same p q (suc n) h = grind (arith, common_steps, count-false, count-true, count_same p q n)

pub count_more : (p q : ℕ → Bool) (n : ℕ) → ((i : ℕ) → i < n → p i ≡ true → q i ≡ true)
    → count p n ≤ count q n
count_more p q zero h = let a = count-zero p in omega arith
count_more p q (suc n) h = grind (arith, common_steps, count-false, count-true, count_more p q n)

-- Where all that pass one test pass another, and as many pass, the tests are the same.
pub count_full : (p q : ℕ → Bool) (n : ℕ) → ((i : ℕ) → i < n → p i ≡ true → q i ≡ true)
    → count p n ≡ count q n → (i : ℕ) → i < n → q i ≡ true → p i ≡ true
count_full p q zero h same i l e = absurd (omega arith)
count_full p q (suc n) h same i l e =
    grind (arith, common_steps, count-false, count-true, count_more, count_full p q n)

count_one_more : (p : ℕ → Bool) (x n : ℕ) → x < n → p x ≡ false
    → count (λ y. eqb y x || p y) n ≡ suc (count p n)
count_one_more p x zero l e = absurd (omega arith)
count_one_more p x (suc n) l e =
    let q : ℕ → Bool = λ y. eqb y x || p y in
    elim (cases_eq n x) [
      | inl is ↦
          grind (arith, common_steps, count-false, count-true, count_same, eq-eqb, ne_eqb, or_left)
      | inr ne ↦ grind (arith, common_steps, count-false, count-true, ne_eqb, count_one_more p x n)
    ]

-- The numbers w 0 to w (k - 1).
pub met : (ℕ → ℕ) → ℕ → ℕ → Bool
met w zero x = false
met w (suc k) x = eqb x (w k) || met w k x

pub met-parts : (w : ℕ → ℕ) (k x : ℕ) → met w k x ≡ true → (i : ℕ) × (i < k) × (x ≡ w i)
unfolding met
met-parts w zero x e = absurd (false≢true e)
met-parts w (suc k) x e = grind (arith, common_steps, eqb-true, met, or_cases, met-parts w k x)

pub met-from : (w : ℕ → ℕ) (k i : ℕ) → i < k → met w k (w i) ≡ true
unfolding met
met-from w zero i l = absurd (omega arith)
met-from w (suc k) i l = grind (arith, common_steps, eq-eqb, met, or_left, or_right, met-from w k i)

count-none : (p : ℕ → Bool) (n : ℕ) → ((i : ℕ) → p i ≡ false) → count p n ≡ 0
count-none p zero h = count-zero p
count-none p (suc n) h = count-false p n (h n) ∙ count-none p n h

pub met-count : (w : ℕ → ℕ) (k n : ℕ) → ((i j : ℕ) → i < j → j < k → w i ≢ w j)
    → ((i : ℕ) → i < k → w i < n) → count (met w k) n ≡ k
unfolding met
met-count w zero n distinct within = count-none (met w zero) n (λ i. refl)
met-count w (suc k) n distinct within =
    let fresh : met w k (w k) ≡ false = grind (arith, common_steps, met, met-parts) in
    let r = met-count w k n (λ i j l g. distinct i j l (omega arith))
    (λ i l. within i (omega arith)) in
    count_one_more (met w k) (w k) n (within k (omega arith)) fresh ∙ ap suc r

-- There are no more distinct numbers below n than n.
pub pigeons : (w : ℕ → ℕ) (k n : ℕ) → ((i j : ℕ) → i < j → j < k → w i ≢ w j)
    → ((i : ℕ) → i < k → w i < n) → k ≤ n
pigeons w k n distinct within = let a = met-count w k n distinct within in let b =
    count_le (met w k) n in omega arith
