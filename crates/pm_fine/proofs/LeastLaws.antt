-- The first least of a list's places has no greater value than any of them.
use Rattle.std.proofs.Common.{ℕ, ◌≤◌, List, [], ◌∷◌, arith}
use Rattle.std.proofs.lemmas.Grind.{common_steps}
use Rattle.std.proofs.Math.Nat.{le_refl}
use Rattle.std.proofs.lemmas.Bool.{ltb-true, ltb-false, cond-true, cond-false}
use Rattle.pm_base.specs.Place.{Place}
use Rattle.pm_fine.specs.FinePlaces.{lesser, first_least_of, IsLeastOf}

lesser_least : (value : Place → ℕ) (a b : Place) → (value (lesser value a b) ≤ value a)
    × (value (lesser value a b) ≤ value b)
lesser_least value a b =
    grind (arith, common_steps, cond-false, cond-true, le_refl, ltb-false, ltb-true)

-- at most the value of the place before the list, and of each place in it
no_greater : (value : Place → ℕ) (a : Place) (ps : List Place)
    → value (first_least_of value a ps) ≤ value a
no_greater value a [] = le_refl (value a)
no_greater value a (b ∷ ps) =
    omega (arith, no_greater value (lesser value a b) ps, lesser_least value a b)

pub first_least_is : (value : Place → ℕ) (a : Place) (ps : List Place)
    → IsLeastOf value (first_least_of value a ps) (a ∷ ps)
first_least_is value a [] = (le_refl (value a), tt)
first_least_is value a (b ∷ ps) =
    let l = lesser_least value a b in
    let rest = first_least_is value (lesser value a b) ps in (
      omega (arith, no_greater value (lesser value a b) ps, l.0),
      (omega (arith, no_greater value (lesser value a b) ps, l.1), rest.1),
    )
