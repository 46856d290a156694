-- Laws for callers: a table that has got one value at each item of a list.
use Rattle.std.proofs.Common.{◌≡◌, ℕ, ◌<◌, true, false, eqb, List, [], ◌∷◌, length, get_or, set}
use Rattle.std.proofs.Common.{sym, refl, ◌∙◌, ⊎_elim, get_or-set_other, length-set}
use Rattle.std.proofs.lemmas.Grind.{get_or-set_at}
use Rattle.std.proofs.lemmas.Bool.{or_parts, or_cases, eqb-true, eqb-false, cases_Bool, false≢true}
use Rattle.pm_links.specs.Lists.{has, set_all}

pub length-set_all : (table xs : List ℕ) (v : ℕ) → length (set_all table xs v) ≡ length table
length-set_all table [] v = refl
length-set_all table (x ∷ xs) v = length-set_all (set table x v) xs v ∙ length-set table x v

pub set_all_out : (table xs : List ℕ) (v y : ℕ) → has xs y ≡ false →
    get_or (set_all table xs v) y 0 ≡ get_or table y 0
set_all_out table [] v y h = refl
set_all_out table (x ∷ xs) v y h =
    let s = or_parts (eqb x y) (has xs y) h in
    set_all_out (set table x v) xs v y s.1
    ∙ get_or-set_other table x y v 0 (λ k. eqb-false x y s.0 (sym k))

pub set_all_in : (table xs : List ℕ) (v y : ℕ) → y < length table → has xs y ≡ true →
    get_or (set_all table xs v) y 0 ≡ v
set_all_in table [] v y l h = absurd (false≢true h)
set_all_in table (x ∷ xs) v y l h =
    ⊎_elim (λ (k : has xs y ≡ true). set_all_in (set table x v) xs v y (rw (length-set table x v) l)
    k)
    (λ (k : has xs y ≡ false). ⊎_elim
    (λ e. set_all_out (set table x v) xs v y k
    ∙ get_or-set_at table x y v 0 (sym (eqb-true x y e)) (rw (eqb-true x y e) l))
    (λ t. absurd (false≢true (sym k ∙ t)))
    (or_cases (eqb x y) (has xs y) h))
    (cases_Bool (has xs y))
