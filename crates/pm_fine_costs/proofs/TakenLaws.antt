-- The planes that a vertex takes, by a walk over the corners round it.
use Rattle.std.proofs.Common.{◌≡◌, ℕ, ◌+◌, ◌*◌, ◌≤◌, Bool, true, false, cond, Option, Some, None}
use Rattle.std.proofs.lemmas.Grind.{common_steps}
use Rattle.std.proofs.Common.{List, [], ◌∷◌, ◌++◌}
use Rattle.std.proofs.Common.{length, length-append, sym, ap, ◌∙◌, subst, arith}
use Rattle.std.specs.Option.{IfSome, option_map}
use Rattle.std.specs.List.{flat_map}
use Rattle.pm_base.specs.declared.limits.TheConstants.{MOST_SIDES}
use Rattle.pm_base.specs.declared.ids.Side.{Side}
use Rattle.pm_base.specs.Geometry.{Direction}
use Rattle.pm_base.specs.Sides.{Net, next, prev, to, Stands, side_count}
use Rattle.pm_base.proofs.Sides.{stands_next}
use Rattle.pm_links.specs.Lists.{has, first_of, after}
use Rattle.pm_links.proofs.Members.{few_below}
use Rattle.pm_links.proofs.Walking.{rest_first, rest_next}
use Rattle.pm_quadric.specs.Planes.{Plane, plane_through}
use Rattle.pm_quadric.specs.Sums.{Sums, plus_sums, zero_sums, sums_of, StandsFor}
use Rattle.pm_quadric.proofs.QuadricLaws.{count-sums}
use Rattle.pm_runs.specs.Surfaces.{Surface, place_at, net_of_surface}
use Rattle.pm_fine.specs.Normals.{border_normal_of}
use Rattle.pm_fine.specs.declared.fine_quadric.TheConstants.{MOST_FINE_PLANES}
use Rattle.pm_shrink.specs.Shrinking.{Shrinking, net_at, fan_at, AreCornersAt}
use Rattle.pm_simplify.specs.Walks.{still}
use Rattle.pm_fine_costs.specs.Corners.{normal_at, corners_round}
use Rattle.pm_fine_costs.specs.FinePolicy.{corner_planes}
use Rattle.pm_fine_costs.specs.FinePolicy.{planes_round}
use Rattle.pm_fine_costs.proofs.PlaneSums.{total, total-cons, same_total, plus-assoc, plus-zero}
use Rattle.pm_fine_costs.proofs.PlaneSums.{zero-plus}
use Rattle.pm_fine_costs.proofs.CornerLists.{corners_once, same_corners}

pub stands_after : (m : Net) (e g : ℕ) → Stands m e → g ≡ next e → Stands m g
stands_after m e g st is = subst (Stands m) (sym is) (stands_next m e st)

pub stands_before : (m : Net) (e g : ℕ) → Stands m e → g ≡ prev e → Stands m g
stands_before m e g st is = subst (Stands m) (sym is) (stands_next m (next e) (stands_next m e st))

abbrev border_plane : (Direction → Direction) → Surface → ℕ → ℕ → Plane
border_plane w s v e =
    let m = net_of_surface s in
    plane_through (w (border_normal_of (place_at s (m.from e)) (place_at s (to m e))
    (normal_at s e)))
    (place_at s v)

three_at_most :
    (f g h : Plane) (a b : Bool) →
    length (f ∷ cond a [] (g ∷ []) ++ cond b [] (h ∷ [])) ≤ 3
three_at_most f g h true true = omega arith
three_at_most f g h true false = omega arith
three_at_most f g h false true = omega arith
three_at_most f g h false false = omega arith

-- A corner has three planes at most.
pub corner_few :
    (w : Direction → Direction) (s : Surface) (v e : ℕ) → length (corner_planes w s v e) ≤ 3
corner_few w s v e = grind (arith, common_steps, three_at_most)

pub all_few :
    (f : ℕ → List Plane) → ((e : ℕ) → length (f e) ≤ 3) → (xs : List ℕ) →
    length (flat_map f xs) ≤ 3 * length xs
all_few f few [] = omega arith
all_few f few (x ∷ xs) =
    omega (arith, few x, all_few f few xs, length-append (f x) (flat_map f xs))

module _ (w : Direction → Direction) (s : Shrinking) (v : ℕ)
    (corners : AreCornersAt (net_at s) v (fan_at s v)) where
  abbrev fan : List ℕ
  fan = fan_at s v

  abbrev planes : ℕ → List Plane
  planes = corner_planes w s.surface v

  pub walk_first :
      (q : Sums) (at : Option Side) → q ≡ zero_sums → option_map (λ c. c.0) at ≡ first_of fan →
      plus_sums q (total planes (still at fan)) ≡ total planes fan
  walk_first q at zero is = grind (arith, common_steps, rest_first, total, zero-plus)

  pub walk_stands : (at : Option Side) (c : Side) → at ≡ Some c → IfSome at
      (λ c. has fan c.0 ≡ true) →
      has fan c.0 ≡ true
  walk_stands at c is held = subst (λ (o : Option Side). IfSome o (λ x. has fan x.0 ≡ true)) is held

  pub walk_on :
      (q cq r : Sums) (at next_at : Option Side) (c : Side) → at ≡ Some c → has fan c.0 ≡ true →
      plus_sums q (total planes (still at fan)) ≡ total planes fan →
      StandsFor cq (corner_planes w s.surface ((net_at s).from c.0) c.0) → r ≡ plus_sums q cq →
      option_map (λ c. c.0) next_at ≡ first_of (after c.0 (fan_at s ((net_at s).from c.0))) →
      plus_sums r (total planes (still next_at fan)) ≡ total planes fan
  walk_on q cq r at next_at c is held before one more step =
      let rest : List ℕ = after c.0 fan in
      let from : (net_at s).from c.0 ≡ v = ((corners.each c.0).0 held).1 in
      let left : still next_at fan ≡ rest = grind (arith, common_steps, rest_next) in
      let here : cq ≡ sums_of (planes c.0) =
      one ∙ ap (λ (k : ℕ). sums_of (corner_planes w s.surface k c.0)) from in
      ap (λ (l : List ℕ). plus_sums r (total planes l)) left
      ∙ ap (λ (k : Sums). plus_sums k (total planes rest)) (more ∙ ap (plus_sums q) here)
      ∙ plus-assoc q (sums_of (planes c.0)) (total planes rest)
      ∙ ap (plus_sums q) (sym (total-cons planes c.0 rest))
      ∙ ap (λ (o : Option Side). plus_sums q (total planes (still o fan))) (sym is)
      ∙ before

  pub walk_few :
      (q cq : Sums) (at : Option Side) → side_count (net_at s) ≤ MOST_SIDES → cq.count ≤ 3 →
      plus_sums q (total planes (still at fan)) ≡ total planes fan →
      q.count + cq.count ≤ MOST_FINE_PLANES
  walk_few q cq at sides few before =
      let faces = few_below (side_count (net_at s)) fan corners.once
      (λ x h. ((corners.each x).0 h).0.is_side) in
      let all = all_few planes (corner_few w s.surface v) fan in
      let count = count-sums (flat_map planes fan) in
      let parts = ap (λ (k : Sums). k.count) before in
      omega arith

  pub walk_done :
      (q : Sums) (at : Option Side) → at ≡ None →
      plus_sums q (total planes (still at fan)) ≡ total planes fan →
      StandsFor q (planes_round w s.surface v)
  unfolding planes_round
  walk_done q at is before =
      sym (plus-zero q)
      ∙ ap (λ (o : Option Side). plus_sums q (total planes (still o fan))) (sym is)
      ∙ before
      ∙ same_total planes fan (corners_round s.surface v) corners.once (corners_once s.surface v)
      (same_corners s.surface v fan corners)
