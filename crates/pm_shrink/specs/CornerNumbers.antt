-- How three numbers hold the corners of a face, or none.
use Rattle.std.specs.Prelude.{◌≡◌, cond, ◌==◌, Option, Some, None, unwrap_or}
use Rattle.std.proofs.Common.{◌∙◌, inl, inr, sym, ap}
use Rattle.std.proofs.lemmas.Bool.{cases_eq, eq-eqb, ne_eqb, cond-true, cond-false}
use Rattle.pm_base.specs.declared.mesh.Corners.{Corners}
use Rattle.pm_shrink.specs.declared.corners.TheConstants.{NONE}

abbrev pub none_numbers : Corners
none_numbers = record { a = NONE; b = NONE; c = NONE }

abbrev pub held_by : Corners → Option Corners
held_by k = cond (k.a == NONE) None (Some k)

-- The numbers follow from what they hold.
pub given_back : (k : Corners) → (k.a ≡ NONE → (k.b ≡ NONE) × (k.c ≡ NONE))
    → unwrap_or (held_by k) none_numbers ≡ k
given_back k kept =
    elim (cases_eq k.a NONE) [
      | inl is ↦
          ap (λ (o : Option Corners). unwrap_or o none_numbers)
          (cond-true _ _ _ (eq-eqb k.a NONE is))
          ∙ (λ i. record { a = (sym is) i; b = (sym (kept is).0) i; c = (sym (kept is).1) i })
      | inr ne ↦ ap (λ (o : Option Corners). unwrap_or o none_numbers)
          (cond-false _ _ _ (ne_eqb k.a NONE ne))
    ]
