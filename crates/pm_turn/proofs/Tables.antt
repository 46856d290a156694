-- Tables of elders as they are written.
use Rattle.std.proofs.Common.{◌≡◌, ℕ, ◌<◌, inl, inr, sym, ◌∙◌, Bool, true, false, ◌||◌, List, arith}
use Rattle.std.proofs.Common.{length, set, slice_index_or}
use Rattle.std.proofs.lemmas.Bool.{cases_eq, cond-true, cond-false, eq-eqb, ne_eqb}
use Rattle.std.proofs.lemmas.Grind.{get_or-set_at, common_steps}
use Rattle.std.proofs.lemmas.List.{get_or-set_other}
use Rattle.pm_turn.specs.Unions.{Up, put, under, marked, elders_of}

pub set_put : {A : Type 0} (xs : List A) (i : ℕ) (v d : A) → i < length xs → (x : ℕ)
    → slice_index_or (set xs i v) x d ≡ put (λ y. slice_index_or xs y d) i v x
set_put xs i v d l x =
    elim (cases_eq x i) [
      | inl is ↦ get_or-set_at xs i x v d is l ∙ sym (cond-true _ _ _ (eq-eqb _ _ is))
      | inr ne ↦ get_or-set_other xs i x v d ne ∙ sym (cond-false _ _ _ (ne_eqb _ _ ne))
    ]

pub tables_under : (es : List ℕ) (ps os : List Bool) (low high : ℕ) (d v : Bool) → high < length es
    → high < length ps → low < length os
    → v ≡ (slice_index_or os low false || slice_index_or os high false)
    → elders_of (set es high low) (set ps high d) (set os low v)
    ≡ under (elders_of es ps os) low high d
tables_under es ps os low high d v el pl ol is =
    let e = set_put es high low 0 el in
    let p = set_put ps high d false pl in
    let o = λ (x : ℕ). set_put os low v false ol x
    ∙ λ i. put (λ y. slice_index_or os y false) low (is i) x in
    λ i. record { elder = λ x. e x i; parity = λ x. p x i; odd = λ x. o x i }

pub tables_marked : (es : List ℕ) (ps os : List Bool) (r : ℕ) → r < length os
    → elders_of es ps (set os r true) ≡ marked (elders_of es ps os) r
tables_marked es ps os r ol = grind (arith, common_steps, set_put, slice_index_or)

-- A way up read from tables of the same items.
pub up_at : (es es2 : List ℕ) (ps ps2 os : List Bool) (f f2 r : ℕ) (p : Bool) → es2 ≡ es → ps2 ≡ ps
    → f2 ≡ f → Up (elders_of es2 ps2 os) f2 r p → Up (elders_of es ps os) f r p
up_at es es2 ps ps2 os f f2 r p a b c u = grind (arith, common_steps)
