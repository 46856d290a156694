-- A node's deviation is at least how far its place may be from the planes and lines under it, since
-- no cosine is above 1.
use Rattle.std.proofs.Common.{ℕ, ◌*◌, ◌<◌, ◌≤◌, eqb, List, [], ◌∷◌, map, Option, None, Some, inl}
use Rattle.std.proofs.Common.{inr, arith}
use Rattle.std.proofs.lemmas.Grind.{common_steps}
use Rattle.std.specs.Prelude.{IfSome}
use Rattle.std.proofs.Math.Nat.{le_refl}
use Rattle.std.proofs.lemmas.Nat.{mul-le}
use Rattle.std.proofs.lemmas.Bool.{cases_Bool, or_parts, eqb-false}
use Rattle.pm_forest.specs.Forest.{Hierarchy, node_count}
use Rattle.pm_forest.specs.Rules.{HasShape}
use Rattle.pm_bounds.specs.Bounds.{greatest}
use Rattle.pm_deviation.specs.declared.axes.TheConstants.{AXES}
use Rattle.pm_deviation.specs.declared.axes.Axis.{Axis}
use Rattle.pm_deviation.specs.declared.spread.Spread.{Spread}
use Rattle.pm_deviation.specs.Normals.{cosine_by, cosine_of, spread_of}
use Rattle.pm_deviation.specs.Lines.{line_spread_of, line_cosine_of}
use Rattle.pm_deviation.specs.Deviations.{plane_deviation_of, line_deviation_of, tilted}
use Rattle.pm_deviation.specs.Deviations.{deviation_of}
use Rattle.pm_deviation.specs.Laws.{IsAboveDistances}
use Rattle.pm_deviation.proofs.CosineLaws.{IsWithinAxis, least_most, spread_within}
use Rattle.pm_deviation.proofs.CosineLaws.{line_spread_within}
use Rattle.pm_deviation.proofs.GrowingLaws.{planes_below, lines_below, is_error, error_there}
use Rattle.pm_deviation.proofs.GrowingLaws.{tilted_there}
use Rattle.pm_deviation.proofs.PartLaws.{ceil_enough}

greatest_most : {X : Type 0} (f : X → ℕ) (xs : List X) (m : ℕ) → ((x : X) → f x ≤ m)
    → greatest (map f xs) ≤ m
greatest_most f [] m h = omega arith
greatest_most f (x ∷ xs) m h = grind (arith, common_steps, greatest_most f xs m h)

most : (u : Axis) (o : Option Spread) → IfSome o (IsWithinAxis u) → cosine_by u o ≤ 16384
most u None h = le_refl 16384
most u (Some s) h = least_most u s h

cosine_most : (h : Hierarchy) (v : ℕ) → cosine_of h v ≤ 16384
unfolding cosine_of
cosine_most h v =
    greatest_most (λ u. cosine_by u (spread_of h u v)) AXES 16384
    (λ u. most u (spread_of h u v) (spread_within h u v))

line_cosine_most : (h : Hierarchy) (v : ℕ) → line_cosine_of h v ≤ 16384
unfolding line_cosine_of
line_cosine_most h v =
    greatest_most (λ u. cosine_by u (line_spread_of h u v)) AXES 16384
    (λ u. most u (line_spread_of h u v) (line_spread_within h u v))

spread_out : (p q c : ℕ) → c ≤ 16384 → 16384 * p ≤ q * c → p ≤ q
spread_out p q c few h = omega (arith, h, mul-le q c q 16384 (le_refl q) few)

-- no distance gets smaller by being tilted
tilted_most : (p c : ℕ) → 0 < c → c ≤ 16384 → p ≤ tilted p c
tilted_most p c some few = spread_out p (tilted p c) c few (ceil_enough (16384 * p) c some)

module _ (h : Hierarchy) (shape : HasShape h) where
  pub above_distances : (v : ℕ) → v < node_count h → IsAboveDistances h v
  above_distances v l =
      let planes = planes_below h shape v l in
      let lines = lines_below h shape v l in
      elim (cases_Bool (is_error h shape v)) [
        | inl e ↦
            let is = error_there h shape v e in
            record { planes = omega arith; lines = omega arith }
        | inr e ↦
            let is = tilted_there h shape v e in
            let never = or_parts (eqb (cosine_of h v) 0) (eqb (line_cosine_of h v) 0) e in
            let by_planes =
            tilted_most (plane_deviation_of h v) (cosine_of h v)
            (omega (arith, eqb-false (cosine_of h v) 0 never.0)) (cosine_most h v) in
            let by_lines =
            tilted_most (line_deviation_of h v) (line_cosine_of h v)
            (omega (arith, eqb-false (line_cosine_of h v) 0 never.1)) (line_cosine_most h v) in
            record { planes = omega arith; lines = omega arith }
      ]

  pub planes_below_deviation : (v : ℕ) → v < node_count h
      → plane_deviation_of h v ≤ deviation_of h v
  planes_below_deviation v l = (above_distances v l).planes
