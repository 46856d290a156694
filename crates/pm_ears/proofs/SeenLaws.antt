-- The plane on which a polygon is cut shows a triangle of its fan wherever one of the three does.
use Rattle.std.proofs.Common.{◌≡◌, Bool, true, false, inl, inr, List, [], ◌∷◌, refl, sym, ap, ◌∙◌}
use Rattle.std.proofs.lemmas.Grind.{common_steps}
use Rattle.std.proofs.Common.{arith}
use Rattle.std.specs.Prelude.{pos, ◌||◌, if◌then◌else◌}
use Rattle.std.specs.List.{list_any}
use Rattle.std.proofs.lemmas.Bool.{cases_Bool, cond-true, cond-false, true≢false}
use Rattle.std.proofs.lemmas.Bool.Decides.{Decides-int_eq}
use Rattle.std.proofs.lemmas.Int.{ints}
use Rattle.std.proofs.lemmas.List.Folds.{Any-from_list_any, list_any-from_Any}
use Rattle.pm_base.specs.Place.{Place}
use Rattle.pm_ears.specs.declared.plane.Axis.{Axis}
use Rattle.pm_ears.specs.declared.plane.Axis.TheVariants as axes
use Rattle.pm_ears.specs.declared.spots.Spot.{Spot}
use Rattle.pm_ears.specs.declared.spots.Triangle.{Triangle}
use Rattle.pm_ears.specs.Areas.{twice_area_of, twice_area_within}
use Rattle.pm_ears.specs.Fans.{fan, has_area}
use Rattle.pm_ears.specs.Planes.{spots_on, spots_of, is_seen, first_seen}
use Rattle.pm_ears.specs.Laws.{total, IsJudgedWhereSeen}
use Rattle.pm_ears.proofs.CutLaws.{cross_back, areas_add_up, fans_are_cuts}
use Rattle.pm_ears.proofs.PieceLaws.{upright_unless_told}
use Rattle.pm_ears.proofs.Shown.{plane_without, none_shown}

-- A polygon has the area of its fan.
fan_total : (spots : List Spot) → total (fan spots) ≡ twice_area_within spots
fan_total [] = refl
fan_total (p ∷ []) = let back = cross_back p p in omega (arith, ints, back)
fan_total (p ∷ q ∷ more) =
    areas_add_up (p ∷ q ∷ more) (fan (p ∷ q ∷ more)) (fans_are_cuts p q more)

no_area : (t : Triangle) → has_area t ≡ false → twice_area_of t ≡ pos 0
no_area t e = grind (arith, common_steps, Decides-int_eq)

no_total : (ts : List Triangle) → list_any has_area ts ≡ false → total ts ≡ pos 0
no_total [] e = refl
no_total (t ∷ ts) e =
    elim (cases_Bool (has_area t)) [
      | inl a ↦ absurd (true≢false (sym (ap (λ b. b || list_any has_area ts) a) ∙ e))
      | inr a ↦
          let here = no_area t a in
          let rest = no_total ts (sym (ap (λ b. b || list_any has_area ts) a) ∙ e) in
          omega (arith, ints, here, rest)
    ]

-- The first axis along which a triangle is seen is such a one.
none_of : (seen : Axis → Bool) (axis : Axis) → seen axes.X ≡ false → seen axes.Y ≡ false
    → seen axes.Z ≡ false → seen axis ≡ true → ⊥
none_of seen axes.X x y z e = true≢false (sym e ∙ x)
none_of seen axes.Y x y z e = true≢false (sym e ∙ y)
none_of seen axes.Z x y z e = true≢false (sym e ∙ z)

first_of : (seen : Axis → Bool) (axis : Axis) → seen axis ≡ true
    → seen (if seen axes.X then axes.X else if seen axes.Y then axes.Y else if seen axes.Z
    then axes.Z else axes.X) ≡ true
first_of seen axis e =
    elim (cases_Bool (seen axes.X)) [
      | inl x ↦ ap seen (cond-true _ _ _ x) ∙ x
      | inr x ↦ ap seen (cond-false _ _ _ x) ∙ (elim (cases_Bool (seen axes.Y)) [
        | inl y ↦ ap seen (cond-true _ _ _ y) ∙ y
        | inr y ↦ ap seen (cond-false _ _ _ y) ∙ (elim (cases_Bool (seen axes.Z)) [
          | inl z ↦ ap seen (cond-true _ _ _ z) ∙ z
          | inr z ↦ absurd (none_of seen axis x y z e)
        ])
      ])
    ]

first_is_seen : (axis : Axis) (places : List Place) → is_seen axis places ≡ true
    → is_seen (first_seen places) places ≡ true
unfolding first_seen
first_is_seen axis places e = first_of (λ a. is_seen a places) axis e

seen_there : (axis : Axis) (places : List Place) → is_seen axis places ≡ true
    → list_any has_area (fan (spots_of places)) ≡ true
seen_there axis places e =
    elim (cases_Bool (list_any has_area (fan (spots_of places)))) [
      | inl a ↦ a
      | inr a ↦
          let zero = sym (fan_total (spots_of places)) ∙ no_total (fan (spots_of places)) a in
          let plane = plane_without places (none_shown places zero) in
          ap (λ p. list_any has_area (fan (spots_on p 0 places))) plane
          ∙ first_is_seen axis places e
    ]

pub judged_where_seen : (places : List Place) → IsJudgedWhereSeen places
judged_where_seen places = record {
  upright = upright_unless_told (spots_of places);
  seen = λ axis some.
      Any-from_list_any has_area (fan (spots_of places))
      (seen_there axis places (list_any-from_Any has_area _ some));
}
