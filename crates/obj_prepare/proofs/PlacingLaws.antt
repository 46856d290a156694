-- The points whose flag is set, one after the other, and their places.
use Rattle.std.proofs.Common.{◌≡◌, ℕ, zero, suc, ◌+◌, ◌<◌, ◌≤◌, Bool, true, false, inl, inr}
use Rattle.std.proofs.lemmas.Grind.{common_steps}
use Rattle.std.proofs.Common.{refl, sym, ap, ◌∙◌, subst, Option, Some, None, List, [], ◌∷◌, ◌++◌}
use Rattle.std.proofs.Common.{length, get_or, drop, arith}
use Rattle.std.specs.List.{All, list_all}
use Rattle.std.specs.Option.{MatchOption}
use Rattle.std.proofs.lemmas.Bool.{cases_Bool, cond-true, cond-false, true≢false, and_parts}
use Rattle.std.proofs.lemmas.List.{drop_more, drop_all, get_or_default, append-nil, append_assoc}
use Rattle.std.proofs.lemmas.List.Elements.{All-head, All-tail}
use Rattle.pm_base.specs.declared.mesh.Corners.{Corners}
use Rattle.pm_base.specs.Place.{Place, origin}
use Rattle.obj_prepare.specs.declared.extents.PointBox.{PointBox}
use Rattle.obj_prepare.specs.declared.placing.Fit.{Fit}
use Rattle.obj_prepare.specs.declared.placing.Fit.TheVariants as fits
use Rattle.obj_prepare.specs.Exact.{lower, upper}
use Rattle.obj_prepare.specs.Boxes.{box_of_points, least_of_places, greatest_of_places}
use Rattle.obj_prepare.specs.Whole.{stands_on_grid}
use Rattle.obj_prepare.specs.Named.{chosen, named_in}
use Rattle.obj_prepare.specs.Placing.{frame_of, fit_for, Suits, placed, places_by, IsSize, fit_of}
use Rattle.obj_prepare.specs.Placing.{prepared_places_of}
use Rattle.obj_prepare.proofs.BoxLaws.{box_has}
use Rattle.obj_prepare.proofs.NamedLaws.{length-named_in}

-- The box of what one has and of more points.
abbrev pub frame_after : Option PointBox → List Place → Option PointBox
frame_after None ps = frame_of ps
frame_after (Some b) ps =
    Some (record { low = least_of_places b.low ps; high = greatest_of_places b.high ps })

pub frame_more : (frame : Option PointBox) (p : Place) (ps : List Place) (b : PointBox)
    → MatchOption frame (b ≡ box_of_points p [])
    (λ a. b ≡ record { low = lower a.low p; high = upper a.high p })
    → frame_after (Some b) ps ≡ frame_after frame (p ∷ ps)
frame_more None p ps b is = ap (λ a. frame_after (Some a) ps) is
frame_more (Some a) p ps b is = ap (λ a. frame_after (Some a) ps) is

pub frame_ends : (frame : Option PointBox) → frame_after frame [] ≡ frame
frame_ends None = refl
frame_ends (Some b) = refl

-- Points of which all stand, one by one.
all_stand_each : (ps : List Place) → list_all stands_on_grid ps ≡ true
    → All (λ p. stands_on_grid p ≡ true) ps
all_stand_each [] h k d l = absurd (omega (arith, l))
all_stand_each (p ∷ ps) h zero d l = (and_parts (stands_on_grid p) (list_all stands_on_grid ps) h).0
all_stand_each (p ∷ ps) h (suc k) d l =
    all_stand_each ps (and_parts (stands_on_grid p) (list_all stands_on_grid ps) h).1 k d
    (omega (arith, l))

-- Each point suits the way in which all are brought onto the grid.
pub fit_suits : (size : Option ℕ) (ps : List Place) → IsSize size → All (Suits (fit_for size ps)) ps
fit_suits size [] is k d l = absurd (omega (arith, l))
fit_suits (Some n) (p ∷ ps) is k d l = (is.1, box_has p ps k d l)
fit_suits None (p ∷ ps) is k d l =
    elim (cases_Bool (list_all stands_on_grid (p ∷ ps))) [
      | inl t ↦ subst (λ fit. Suits fit (get_or (p ∷ ps) k d))
          (sym (cond-true (list_all stands_on_grid (p ∷ ps)) fits.Standing
          (fits.Scaled 32767 (box_of_points p ps)) t)) (all_stand_each (p ∷ ps) t k d l)
      | inr e ↦ subst (λ fit. Suits fit (get_or (p ∷ ps) k d))
          (sym (cond-false (list_all stands_on_grid (p ∷ ps)) fits.Standing
          (fits.Scaled 32767 (box_of_points p ps)) e)) (omega arith, box_has p ps k d l)
    ]

-- A point whose flag is set is one of the chosen.
pub chosen_has : (P : Place → Type 0) (flags : List Bool) (ps : List Place) (i : ℕ) (d : Place)
    → length flags ≡ length ps → i < length ps → get_or flags i false ≡ true
    → All P (chosen flags ps) → P (get_or ps i d)
chosen_has P [] [] i d same l is all = absurd (omega (arith, l))
chosen_has P [] (p ∷ ps) i d same l is all = absurd (omega (arith, same))
chosen_has P (f ∷ flags) [] i d same l is all = absurd (omega (arith, l))
chosen_has P (true ∷ flags) (p ∷ ps) zero d same l is all = All-head P p (chosen flags ps) all
chosen_has P (false ∷ flags) (p ∷ ps) zero d same l is all = absurd (true≢false (sym is))
chosen_has P (true ∷ flags) (p ∷ ps) (suc i) d same l is all =
    chosen_has P flags ps i d (omega (arith, same)) (omega (arith, l)) is
    (All-tail P p (chosen flags ps) all)
chosen_has P (false ∷ flags) (p ∷ ps) (suc i) d same l is all =
    chosen_has P flags ps i d (omega (arith, same)) (omega (arith, l)) is all

length-places_by : (fit : Fit) (flags : List Bool) (ps : List Place) → length flags ≡ length ps
    → length (places_by fit flags ps) ≡ length ps
length-places_by fit [] [] same = refl
length-places_by fit [] (p ∷ ps) same = absurd (omega (arith, same))
length-places_by fit (f ∷ flags) [] same = absurd (omega (arith, same))
length-places_by fit (f ∷ flags) (p ∷ ps) same =
    ap suc (length-places_by fit flags ps (omega (arith, same)))

-- Each point has a place.
pub length-places_of : (size : Option ℕ) (points : List Place) (faces : List Corners)
    → length (prepared_places_of size points faces) ≡ length points
length-places_of size points faces =
    length-places_by (fit_of size points faces) (named_in faces (length points)) points
    (length-named_in faces (length points))

-- What is left of flags and points, one step on.
module _ (flags : List Bool) (ps : List Place) (i : ℕ) (p : Place) (same : length flags ≡ length ps)
    (l : i < length ps) (read : p ≡ get_or ps i p) where
  rest : {X : Type 0} (F : List Bool → List Place → X)
      → F (drop i flags) (drop i ps) ≡ F (get_or flags i false ∷ drop (i + 1) flags)
      (p ∷ drop (i + 1) ps)
  rest F = ap (λ bs. F bs (drop i ps)) (drop_more flags i false (omega (arith, same, l)))
      ∙ ap (F (get_or flags i false ∷ drop (i + 1) flags)) (drop_more ps i p l
      ∙ ap (λ q. q ∷ drop (i + 1) ps) (sym read))

  pub flag_is : {X : Type 0} (F : List Bool → List Place → X) (b : Bool) → get_or flags i false ≡ b
      → F (drop i flags) (drop i ps) ≡ F (b ∷ drop (i + 1) flags) (p ∷ drop (i + 1) ps)
  flag_is F b is = rest F ∙ ap (λ f. F (f ∷ drop (i + 1) flags) (p ∷ drop (i + 1) ps)) is

  pub frame_on : (frame : Option PointBox) (b : PointBox) (r : Option PointBox)
      → get_or flags i false ≡ true
      → MatchOption frame (b ≡ box_of_points p [])
      (λ a. b ≡ record { low = lower a.low p; high = upper a.high p })
      → frame_after frame (chosen (drop i flags) (drop i ps)) ≡ r
      → frame_after (Some b) (chosen (drop (i + 1) flags) (drop (i + 1) ps)) ≡ r
  frame_on frame b r is grown left =
      frame_more frame p (chosen (drop (i + 1) flags) (drop (i + 1) ps)) b grown
      ∙ sym (flag_is (λ bs qs. frame_after frame (chosen bs qs)) true is) ∙ left

  pub stand_on : (r : Bool) → get_or flags i false ≡ true → stands_on_grid p ≡ true
      → list_all stands_on_grid (chosen (drop i flags) (drop i ps)) ≡ r
      → list_all stands_on_grid (chosen (drop (i + 1) flags) (drop (i + 1) ps)) ≡ r
  stand_on r is good left = grind (arith, common_steps, flag_is)

  pub stand_fails : (r : Bool) → get_or flags i false ≡ true → stands_on_grid p ≡ false
      → list_all stands_on_grid (chosen (drop i flags) (drop i ps)) ≡ r → false ≡ r
  stand_fails r is bad left = grind (arith, common_steps, flag_is)

  pub place_on : (fit : Fit) (before more r : List Place) → get_or flags i false ≡ true
      → more ≡ before ++ placed fit p ∷ []
      → before ++ places_by fit (drop i flags) (drop i ps) ≡ r
      → more ++ places_by fit (drop (i + 1) flags) (drop (i + 1) ps) ≡ r
  place_on fit before more r is push left = grind (arith, common_steps, append_assoc, flag_is)

-- The same where the flag isn't set, whatever the point.
module _ (flags : List Bool) (ps : List Place) (i : ℕ) (same : length flags ≡ length ps)
    (l : i < length ps) where
  pub off : {X : Type 0} (F : List Bool → List Place → X) → get_or flags i false ≡ false
      → F (drop i flags) (drop i ps) ≡ F (false ∷ drop (i + 1) flags)
      (get_or ps i origin ∷ drop (i + 1) ps)
  off F is = flag_is flags ps i (get_or ps i origin) same l
      (get_or_default ps i origin (get_or ps i origin) l) F false is

  pub frame_past : (frame r : Option PointBox) → get_or flags i false ≡ false
      → frame_after frame (chosen (drop i flags) (drop i ps)) ≡ r
      → frame_after frame (chosen (drop (i + 1) flags) (drop (i + 1) ps)) ≡ r
  frame_past frame r is left = sym (off (λ bs qs. frame_after frame (chosen bs qs)) is) ∙ left

  pub stand_past : (r : Bool) → get_or flags i false ≡ false
      → list_all stands_on_grid (chosen (drop i flags) (drop i ps)) ≡ r
      → list_all stands_on_grid (chosen (drop (i + 1) flags) (drop (i + 1) ps)) ≡ r
  stand_past r is left = sym (off (λ bs qs. list_all stands_on_grid (chosen bs qs)) is) ∙ left

  pub place_past : (fit : Fit) (before more r : List Place) → get_or flags i false ≡ false
      → more ≡ before ++ origin ∷ []
      → before ++ places_by fit (drop i flags) (drop i ps) ≡ r
      → more ++ places_by fit (drop (i + 1) flags) (drop (i + 1) ps) ≡ r
  place_past fit before more r is push left =
      ap (λ xs. xs ++ places_by fit (drop (i + 1) flags) (drop (i + 1) ps)) push
      ∙ append_assoc before (origin ∷ []) (places_by fit (drop (i + 1) flags) (drop (i + 1) ps))
      ∙ sym (ap (λ xs. before ++ xs) (off (places_by fit) is)) ∙ left

-- Where nothing is left.
module _ (flags : List Bool) (ps : List Place) (i : ℕ) (same : length flags ≡ length ps)
    (l : length ps ≤ i) where
  pub none_left : {X : Type 0} (F : List Bool → List Place → X)
      → F (drop i flags) (drop i ps) ≡ F [] []
  none_left F = ap (λ bs. F bs (drop i ps)) (drop_all i flags (omega (arith, same, l)))
      ∙ ap (F []) (drop_all i ps l)

  pub frame_done : (frame r : Option PointBox)
      → frame_after frame (chosen (drop i flags) (drop i ps)) ≡ r → frame ≡ r
  frame_done frame r left =
      sym (none_left (λ bs qs. frame_after frame (chosen bs qs)) ∙ frame_ends frame) ∙ left

  pub stand_done : (r : Bool) → list_all stands_on_grid (chosen (drop i flags) (drop i ps)) ≡ r
      → true ≡ r
  stand_done r left = sym (none_left (λ bs qs. list_all stands_on_grid (chosen bs qs))) ∙ left

  pub place_done : (fit : Fit) (before r : List Place)
      → before ++ places_by fit (drop i flags) (drop i ps) ≡ r → before ≡ r
  place_done fit before r left =
      sym (ap (λ xs. before ++ xs) (none_left (places_by fit)) ∙ append-nil before) ∙ left
