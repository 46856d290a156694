-- The first point at an end of an axis, point by point.
use Rattle.std.proofs.Common.{◌≡◌, ℕ, ◌+◌, ◌<◌, ◌≤◌, ℤ, Bool, true, false, List, ◌∷◌, length}
use Rattle.std.proofs.lemmas.Grind.{common_steps}
use Rattle.std.proofs.Common.{get_or, drop, arith}
use Rattle.std.proofs.lemmas.Bool.{cond-true, cond-false}
use Rattle.std.proofs.lemmas.List.{drop_more, drop_all}
use Rattle.pm_base.specs.Place.{Place}
use Rattle.obj_prepare.specs.declared.longest.Axis.{Axis}
use Rattle.obj_prepare.specs.Longest.{is_at, first_at}

module _ (axis : Axis) (n : ℤ) (flags : List Bool) (ps : List Place) (i : ℕ) where
  rest : ℕ
  rest = first_at axis n (drop (i + 1) flags) (drop (i + 1) ps)

  cut : (p : Place) → length flags ≡ length ps → i < length ps → p ≡ get_or ps i p
      → first_at axis n (drop i flags) (drop i ps)
      ≡ first_at axis n (get_or flags i false ∷ drop (i + 1) flags) (p ∷ drop (i + 1) ps)
  cut p same l read = grind (arith, common_steps, drop_more, get_or)

  pub first_here : (p : Place) → length flags ≡ length ps → i < length ps → p ≡ get_or ps i p
      → is_at axis n (get_or flags i false) p ≡ true
      → first_at axis n flags ps ≡ i + first_at axis n (drop i flags) (drop i ps)
      → i ≡ first_at axis n flags ps
  unfolding rest
  first_here p same l read here is = grind (arith, common_steps, cond-true, cut, get_or, rest)

  pub first_past : (p : Place) → length flags ≡ length ps → i < length ps → p ≡ get_or ps i p
      → is_at axis n (get_or flags i false) p ≡ false
      → first_at axis n flags ps ≡ i + first_at axis n (drop i flags) (drop i ps)
      → first_at axis n flags ps ≡ i + 1 + first_at axis n (drop (i + 1) flags) (drop (i + 1) ps)
  unfolding rest
  first_past p same l read out is = grind (arith, common_steps, cond-false, cut, get_or, rest)

  pub first_none : length flags ≡ length ps → length ps ≤ i → i ≤ length ps
      → first_at axis n flags ps ≡ i + first_at axis n (drop i flags) (drop i ps)
      → length ps ≡ first_at axis n flags ps
  first_none same l most is = grind (arith, common_steps, drop_all)
