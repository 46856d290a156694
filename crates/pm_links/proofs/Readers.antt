-- What the node after a head's or an item's tells of the list.
use Rattle.std.proofs.Common.{◌≡◌, ℕ, ◌+◌, ◌<◌, ◌≤◌, Some, None, true, false, cond, ltb, eqb, List}
use Rattle.std.proofs.Common.{[], ◌∷◌, get_or, sym, ap, refl, ◌∙◌, ⊎_elim, arith}
use Rattle.std.proofs.lemmas.Bool.{or_cases, eqb-true, cases_Bool, false≢true, lt-ltb, le-ltb}
use Rattle.pm_links.specs.Lists.{has, first_of, after}
use Rattle.pm_links.specs.Arena.{IsLinked, IsArena}
use Rattle.pm_links.proofs.Members.{has_head, has_tail}
use Rattle.pm_links.proofs.Outside.{low_head}

first_run : (next prev : List ℕ) (n a : ℕ) (xs : List ℕ) (b f : ℕ) → n ≤ b →
    ((x : ℕ) → has xs x ≡ true → x < n) → get_or next a 0 ≡ f → IsLinked next prev a xs b →
    first_of xs ≡ cond (ltb f n) (Some f) None
first_run next prev n a [] b f nb low e l = rw (sym e ∙ l.0, le-ltb b n nb) refl
first_run next prev n a (x ∷ xs) b f nb low e l =
    rw (sym e ∙ l.0, lt-ltb x n (low x (has_head x xs))) refl

next_run : (next prev : List ℕ) (n a : ℕ) (xs : List ℕ) (b x f : ℕ) → n ≤ b →
    ((x : ℕ) → has xs x ≡ true → x < n) → get_or next x 0 ≡ f → has xs x ≡ true →
    IsLinked next prev a xs b → first_of (after x xs) ≡ cond (ltb f n) (Some f) None
next_run next prev n a [] b x f nb low e h l = absurd (false≢true h)
next_run next prev n a (y ∷ ys) b x f nb low e h l =
    let low_tail : (z : ℕ) → has ys z ≡ true → z < n = λ z k. low z (has_tail y ys z k) in
    ⊎_elim (λ (t : eqb y x ≡ true). rw t (first_run next prev n y ys b f nb low_tail
    (ap (λ k. get_or next k 0) (eqb-true y x t) ∙ e) l.2))
    (λ (t : eqb y x ≡ false). rw t (next_run next prev n y ys b x f nb low_tail e
    (⊎_elim (λ k. absurd (false≢true (sym t ∙ k))) (λ k. k)
    (or_cases (eqb y x) (has ys x) h)) l.2))
    (cases_Bool (eqb y x))

module _ {n m : ℕ} {next prev owner : List ℕ} {ls : List (List ℕ)}
    (a : IsArena n m next prev owner ls) where
  pub first_read : (h f : ℕ) → h < m → get_or next (n + h) 0 ≡ f →
      first_of (get_or ls h []) ≡ cond (ltb f n) (Some f) None
  first_read h f hm e =
      first_run next prev n (n + h) (get_or ls h []) (n + h) f (omega arith)
      (λ x i. a.in_range h x hm i) e (a.linked h hm)

  pub next_read : (h x f : ℕ) → has (get_or ls h []) x ≡ true → get_or next x 0 ≡ f →
      first_of (after x (get_or ls h [])) ≡ cond (ltb f n) (Some f) None
  next_read h x f i e =
      let hm : h < m = low_head a h x i in
      next_run next prev n (n + h) (get_or ls h []) (n + h) x f (omega arith)
      (λ x i. a.in_range h x hm i) e i (a.linked h hm)
