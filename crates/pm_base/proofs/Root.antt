-- The search for a root rounded up finds it.
use Rattle.std.proofs.Common.{◌≡◌, ℕ, zero, suc, ◌+◌, ◌*◌, ◌<◌, ◌≤◌, inl, inr, sym, subst, arith}
use Rattle.std.specs.Prelude.{nat_le}
use Rattle.std.proofs.lemmas.Nat.{mul-le}
use Rattle.std.proofs.lemmas.Bool.{cases_Bool, leb-true, leb-false, cond-true, cond-false, cases_lt}
use Rattle.pm_base.specs.Rounded.{root_from, root_up, IsRootUp}

-- no number up to k has a square of at least n
above : (k n : ℕ) → k * k < n → ((m : ℕ) → n ≤ m * m → k ≤ m) → (m : ℕ) → n ≤ m * m → k + 1 ≤ m
above k n p h m q =
    elim (cases_lt k m) [ inl l ↦ omega arith | inr l ↦ absurd (omega (arith, mul-le m m k k l l)) ]

from_is : (f k n : ℕ) → n ≤ (k + f) * (k + f) → ((m : ℕ) → n ≤ m * m → k ≤ m)
    → IsRootUp n (root_from f k n)
from_is zero k n p h = record { enough = omega arith; least = h }
from_is (suc f) k n p h =
    elim (cases_Bool (nat_le n (k * k))) [
      | inl e ↦ subst (λ (r : ℕ). IsRootUp n r)
          (sym (cond-true (nat_le n (k * k)) k (root_from f (k + 1) n) e))
          (record { enough = leb-true n (k * k) e; least = h })
      | inr e ↦ subst (λ (r : ℕ). IsRootUp n r)
          (sym (cond-false (nat_le n (k * k)) k (root_from f (k + 1) n) e))
          (from_is f (k + 1) n (omega arith) (above k n (leb-false n (k * k) e) h))
    ]

self_square : (n : ℕ) → n ≤ (0 + n) * (0 + n)
self_square zero = omega arith
self_square (suc n) = omega arith

pub root_up_is : (n : ℕ) → IsRootUp n (root_up n)
unfolding root_up
root_up_is n = from_is n 0 n (self_square n) (λ m h. omega arith)

pub root_up_only : (n r : ℕ) → n ≤ r * r → ((m : ℕ) → n ≤ m * m → r ≤ m) → r ≡ root_up n
root_up_only n r p h = let k = root_up_is n in omega (arith, h (root_up n) k.enough, k.least r p)
