-- Deciding what is made of parts that can be decided.
use Rattle.std.proofs.Common.{ℕ, ◌<◌, ◌⊎◌, inl, inr, arith}
use Rattle.std.proofs.lemmas.Grind.{common_steps}
use Rattle.std.proofs.lemmas.Bool.{cases_lt}
use Rattle.pm_base.proofs.Search.{Decided, search_below}

pub both? : {P Q : Type 0} → Decided P → Decided Q → Decided (P × Q)
both? (inl p) (inl q) = inl (p, q)
both? (inl p) (inr n) = inr (λ h. n h.1)
both? (inr n) q = inr (λ h. n h.0)

pub three? : {P Q R : Type 0} → Decided P → Decided Q → Decided R → Decided (P × Q × R)
three? p q r = grind (arith, common_steps, both?)

pub four? : {P Q R S : Type 0} → Decided P → Decided Q → Decided R → Decided S
    → Decided (P × Q × R × S)
four? p q r s = grind (arith, common_steps, both?, three?)

pub five? : {P Q R S T : Type 0} → Decided P → Decided Q → Decided R → Decided S → Decided T
    → Decided (P × Q × R × S × T)
five? p q r s t = grind (arith, common_steps, both?, four?)

pub either? : {P Q : Type 0} → Decided P → Decided Q → Decided (P ⊎ Q)
either? (inl p) q = inl (inl p)
either? (inr n) (inl q) = inl (inr q)
either? (inr n) (inr k) = inr (λ h. elim h [ inl p ↦ n p | inr q ↦ k q ])

pub never? : {P : Type 0} → Decided P → Decided (P → ⊥)
never? (inl p) = inr (λ n. n p)
never? (inr n) = inl n

pub less? : (a b : ℕ) → Decided (a < b)
less? a b = elim (cases_lt a b) [ inl l ↦ inl l | inr k ↦ inr (λ l. omega (arith, k, l)) ]

-- What holds at some side holds at one below their number.
pub at_side? : (n : ℕ) (P : ℕ → Type 0) → ((e : ℕ) → Decided (P e)) → ((e : ℕ) → P e → e < n)
    → Decided ((e : ℕ) × P e)
at_side? n P decide below = grind (arith, common_steps, search_below P decide n)
