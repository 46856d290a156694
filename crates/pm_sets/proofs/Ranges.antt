-- Which numbers of a range pass a test, and how many they are.
use Rattle.std.proofs.Common.{◌≡◌, ◌≢◌, ℕ, zero, suc, ◌+◌, ◌<◌, ◌≤◌, Bool, true, false, []}
use Rattle.std.proofs.lemmas.Grind.{common_steps}
use Rattle.std.proofs.Common.{length, inl, inr, refl, arith}
use Rattle.std.specs.List.{filter, range_with_len}
use Rattle.std.proofs.lemmas.Bool.{cases_eq}

pub none_passes : (p : ℕ → Bool) (a n : ℕ) → ((y : ℕ) → a ≤ y → y < a + n → p y ≡ false)
    → filter p (range_with_len a n) ≡ []
none_passes p a zero none = refl
none_passes p a (suc n) none =
    rw (none a (omega arith) (omega arith))
    (none_passes p (a + 1) n (λ y low high. none y (omega arith) (omega arith)))

pub at_most_all : (p : ℕ → Bool) (a n : ℕ) → length (filter p (range_with_len a n)) ≤ n
at_most_all p a zero = omega arith
at_most_all p a (suc n) = grind (arith, common_steps, at_most_all p (a + 1) n)

pub same_pass : (p q : ℕ → Bool) (a n : ℕ) → ((y : ℕ) → a ≤ y → y < a + n → p y ≡ q y)
    → filter p (range_with_len a n) ≡ filter q (range_with_len a n)
same_pass p q a zero same = refl
same_pass p q a (suc n) same = grind (arith, common_steps, same_pass p q (a + 1) n)

-- q passes one number more
pub one_more : (p q : ℕ → Bool) (a n x : ℕ) → a ≤ x → x < a + n → p x ≡ false → q x ≡ true
    → ((y : ℕ) → y ≢ x → q y ≡ p y) →
    length (filter q (range_with_len a n)) ≡ suc (length (filter p (range_with_len a n)))
one_more p q a zero x low high out in_q same = absurd (omega arith)
one_more p q a (suc n) x low high out in_q same =
    elim (cases_eq a x) [
      | inl is ↦ grind (arith, common_steps, same_pass)
      | inr other ↦ grind (arith, common_steps, one_more p q (a + 1) n x)
    ]
