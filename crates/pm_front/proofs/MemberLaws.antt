-- How many different numbers a list has.
use Rattle.std.proofs.Common.{◌≡◌, ◌≢◌, ◌↔◌, ℕ, suc, ◌<◌, ◌≤◌, Bool, true, false, eqb, List, []}
use Rattle.std.proofs.lemmas.Grind.{common_steps}
use Rattle.std.proofs.Common.{◌∷◌, length, ◌⊎◌, inl, inr, sym, ap, ◌∙◌, subst, arith}
use Rattle.std.specs.List.{filter}
use Rattle.std.proofs.lemmas.Bool.{cases_eq, eq-eqb, ne_eqb, or_cases, eqb-true, false≢true}
use Rattle.pm_links.specs.Lists.{has, list_without, IsOnce}
use Rattle.pm_links.proofs.Members.{has_head, has_tail}
use Rattle.pm_links.proofs.Without.{without_none, has-without, once-without}
use Rattle.pm_forest.specs.Forest.{Hierarchy, node_count}
use Rattle.pm_forest.specs.Fronts.{is_active}
use Rattle.pm_front.specs.Shown.{active_nodes}
use Rattle.pm_base.specs.Counts.{numbers_below}
use Rattle.pm_front.specs.Active.{AreActive}
use Rattle.pm_front.proofs.ListLaws.{has_filter-parts, has_filter-from, once-filter, once-range}
use Rattle.pm_front.proofs.ListLaws.{number-member}

length-without : (x : ℕ) (xs : List ℕ) → IsOnce xs → has xs x ≡ true
    → length xs ≡ suc (length (list_without x xs))
length-without x [] once there = absurd (false≢true there)
length-without x (y ∷ ys) once there =
    elim (cases_eq y x) [
      | inl is ↦ rw (eq-eqb y x is)
          (ap (λ l. suc (length l))
          (sym (without_none x ys (subst (λ z. has ys z ≡ false) is once.0))))
      | inr other ↦
          rw (ne_eqb y x other)
          (ap suc (length-without x ys once.1 (later (or_cases (eqb y x) (has ys x) there) other)))
    ]
  where
    later : (eqb y x ≡ true) ⊎ (has ys x ≡ true) → y ≢ x → has ys x ≡ true
    later (inl is) other = absurd (other (eqb-true y x is))
    later (inr t) other = t

at_most : (xs ys : List ℕ) → IsOnce xs → IsOnce ys → ((x : ℕ) → has xs x ≡ true → has ys x ≡ true)
    → length xs ≤ length ys
at_most [] ys o p within = omega arith
at_most (x ∷ xs) ys o p within =
    let one = length-without x ys p (within x (has_head x xs)) in
    let rest = at_most xs (list_without x ys) o.1 (once-without x ys p) (λ y t.
    has-without x ys y (λ (is : y ≡ x). false≢true (sym o.0 ∙ ap (has xs) (sym is) ∙ t))
    ∙ within y (has_tail x xs y t)) in
    omega (arith, one, rest)

-- lists of the same numbers, each once, are as long
as_long : (xs ys : List ℕ) → IsOnce xs → IsOnce ys
    → ((x : ℕ) → (has xs x ≡ true) ↔ (has ys x ≡ true)) → length xs ≡ length ys
as_long xs ys o p same = grind (arith, common_steps, at_most)

-- the numbers below n that pass a test are as many as those of a list that has just these
pub as_many : (p : ℕ → Bool) (n : ℕ) (xs : List ℕ) → IsOnce xs
    → ((x : ℕ) → (has xs x ≡ true) ↔ ((x < n) × (p x ≡ true)))
    → length xs ≡ length (filter p (numbers_below n))
as_many p n xs once each =
    as_long xs (filter p (numbers_below n)) once (once-filter p (numbers_below n) (once-range 0 n))
    (λ x. (
      λ t. (let q =
          (each x).0 t in has_filter-from p (numbers_below n) x q.1 ((number-member n x).1 q.0)),
      λ t. (let q = has_filter-parts p (numbers_below n) x t in
          (each x).1 ((number-member n x).0 q.1, q.0)),
    ))

pub active-many : (h : Hierarchy) (T : ℕ → Bool) (nodes : List ℕ) → AreActive h T nodes
    → length nodes ≡ length (active_nodes h T)
active-many h T nodes right = as_many (is_active h T) (node_count h) nodes right.once right.each
