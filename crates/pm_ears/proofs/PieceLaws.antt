-- What a polygon is cut into, and what is told of it.
use Rattle.std.proofs.Common.{◌≡◌, ℕ, zero, suc, ◌+◌, ◌-◌, ◌≤◌, Bool, true, false, Option, Some}
use Rattle.std.proofs.lemmas.Grind.{common_steps}
use Rattle.std.proofs.Common.{None, Ordering, Less, inl, inr, List, [], ◌∷◌, length, refl, sym, ap}
use Rattle.std.proofs.Common.{◌∙◌, subst, arith}
use Rattle.std.specs.Prelude.{ℤ, pos, int_lt, cond, ◌&&◌, ◌||◌, ◌⊎◌}
use Rattle.std.specs.List.{All, Any, list_any}
use Rattle.std.specs.Option.{option_map}
use Rattle.std.specs.Ordering.{is_eq}
use Rattle.std.proofs.lemmas.Bool.{cases_Bool, false≢true, true≢false}
use Rattle.std.proofs.lemmas.Int.{ints}
use Rattle.std.proofs.lemmas.List.Edits.{length-remove}
use Rattle.std.proofs.lemmas.List.Elements.{All-nil, All-cons}
use Rattle.std.proofs.lemmas.List.Folds.{Any-from_list_any}
use Rattle.std.proofs.lemmas.Option.{none-some, option_and_then_some}
use Rattle.pm_base.specs.Place.{Place}
use Rattle.pm_ears.specs.declared.cut.CutKind.{CutKind}
use Rattle.pm_ears.specs.declared.cut.CutKind.TheVariants as kinds
use Rattle.pm_ears.specs.declared.spots.Spot.{Spot}
use Rattle.pm_ears.specs.declared.spots.Triangle.{Triangle}
use Rattle.pm_ears.specs.Areas.{twice_area_of, triangle_at}
use Rattle.pm_ears.specs.Planes.{plane_of, spots_of}
use Rattle.pm_ears.specs.Ears.{is_ear, is_flat, next_ear, without, ears}
use Rattle.pm_ears.specs.Fans.{fan}
use Rattle.pm_ears.specs.Cutting.{is_turned_over, Pieces, pieces_by, few_ears, pieces_of}
use Rattle.pm_ears.specs.Laws.{IsCut, done, next, IsInOrder}
use Rattle.pm_ears.proofs.Rows.{as_many_spots}
use Rattle.pm_ears.proofs.Taking.{some_same, next_found}
use Rattle.pm_ears.proofs.Cuts.{by_fan, by_ears}
use Rattle.pm_ears.proofs.CutLaws.{takes_off, fans_are_cuts, cut_order, spots_between}

-- What comes off isn't turned over.
left_true : (a b : Bool) → (a && b) ≡ true → a ≡ true
left_true true b e = refl
left_true false b e = absurd (false≢true e)

above : (z : ℤ) → int_lt (pos 0) z ≡ true → int_lt z (pos 0) ≡ false
above z e = grind (arith, common_steps, ints)

not_less : (a : Bool) (x : Ordering) → is_eq (cond a Less x) ≡ true → a ≡ false
not_less true x e = absurd (false≢true e)
not_less false x e = refl

not_turned : (left : List Spot) (i : ℕ) → (is_ear left i ≡ true) ⊎ (is_flat left i ≡ true)
    → is_turned_over (triangle_at left i) ≡ false
not_turned left i (inl e) = above (twice_area_of (triangle_at left i)) (left_true _ _ e)
not_turned left i (inr e) = not_less _ _ e

-- The first of the ears, and the others.
pub record Begins (left : List Spot) (n : ℕ) (ts : List Triangle) : Type 0 where
  pub first : ℕ
  pub others : List Triangle
  pub found : next_ear left ≡ Some first
  pub rest : ears n (without left first) ≡ Some others
  pub all : triangle_at left first ∷ others ≡ ts

mapped_some : (t : Triangle) (o : Option (List Triangle)) (ts : List Triangle)
    → option_map (λ (us : List Triangle). t ∷ us) o ≡ Some ts
    → (us : List Triangle) × (o ≡ Some us) × (t ∷ us ≡ ts)
mapped_some t None ts e = absurd (none-some ts e)
mapped_some t (Some us) ts e = (us, refl, some_same (t ∷ us) ts e)

begins : (n : ℕ) (left : List Spot) (ts : List Triangle) → ears (suc n) left ≡ Some ts
    → Begins left n ts
begins n left ts e = grind (arith, common_steps, mapped_some, option_and_then_some)

pub ears_upright : (n : ℕ) (left : List Spot) (ts : List Triangle) → ears n left ≡ Some ts
    → All (λ t. is_turned_over t ≡ false) ts
ears_upright zero left ts e =
    subst (λ (us : List Triangle). All (λ t. is_turned_over t ≡ false) us) (some_same [] ts e)
    (All-nil (λ t. is_turned_over t ≡ false))
ears_upright (suc n) left ts e =
    let b = begins n left ts e in
    subst (λ (us : List Triangle). All (λ t. is_turned_over t ≡ false) us) b.all
    (All-cons (λ t. is_turned_over t ≡ false) (triangle_at left b.first) b.others
    (not_turned left b.first (next_found left b.first b.found).0)
    (ears_upright n (without left b.first) b.others b.rest))

cut_by_two : (spots : List Spot) (ts : List Triangle) → length spots ≡ 2 → [] ≡ ts → IsCut spots ts
cut_by_two [] ts l e = absurd (omega (arith, l))
cut_by_two (p ∷ []) ts l e = absurd (omega (arith, l))
cut_by_two (p ∷ q ∷ []) ts l e = subst (IsCut (p ∷ q ∷ [])) e done
cut_by_two (p ∷ q ∷ r ∷ more) ts l e = absurd (omega (arith, l))

pub ears_cut : (n : ℕ) (left : List Spot) (ts : List Triangle) → length left ≡ n + 2
    → ears n left ≡ Some ts → IsCut left ts
ears_cut zero left ts l e = cut_by_two left ts (omega (arith, l)) (some_same [] ts e)
ears_cut (suc n) left ts l e =
    let b = begins n left ts e in
    let within = (next_found left b.first b.found).1 in
    let fewer = length-remove left (b.first + 1) (omega (arith, within)) in
    subst (IsCut left) b.all (next (takes_off left b.first within)
    (ears_cut n (without left b.first) b.others (omega (arith, l, fewer)) b.rest))

pub ears_are_cuts : (n : ℕ) (spots : List Spot) (ts : List Triangle) → length spots ≡ n + 2
    → ears n spots ≡ Some ts
    → IsCut spots ts × All (λ t. is_turned_over t ≡ false) ts
ears_are_cuts n spots ts l e = (ears_cut n spots ts l e, ears_upright n spots ts e)

-- The pieces.
fan_cut : (spots : List Spot) → 2 ≤ length spots → IsCut spots (fan spots)
fan_cut [] l = absurd (omega (arith, l))
fan_cut (p ∷ []) l = absurd (omega (arith, l))
fan_cut (p ∷ q ∷ more) l = fans_are_cuts p q more

if_some : (b : Bool) (o : Option (List Triangle)) (ts : List Triangle) → cond b None o ≡ Some ts
    → o ≡ Some ts
if_some true o ts e = absurd (none-some ts e)
if_some false o ts e = e

few_ears_some : (spots : List Spot) (ts : List Triangle) → few_ears spots ≡ Some ts
    → ears (length spots - 2) spots ≡ Some ts
few_ears_some spots ts e = if_some _ _ ts e

by_option : (spots : List Spot) (o : Option (List Triangle)) → 2 ≤ length spots → few_ears spots ≡ o
    → IsCut spots (pieces_by (fan spots) o).triangles
by_option spots None l e = fan_cut spots l
by_option spots (Some ts) l e =
    ears_cut (length spots - 2) spots ts (omega (arith, l)) (few_ears_some spots ts e)

pieces_cut : (spots : List Spot) → 2 ≤ length spots → IsCut spots (pieces_of spots).triangles
pieces_cut spots l = grind (arith, common_steps, by_ears, by_fan, by_option, fan_cut)

pub pieces_are_cuts : (places : List Place) → 2 ≤ length places
    → IsCut (spots_of places) (pieces_of (spots_of places)).triangles
    × All (IsInOrder (length places)) (pieces_of (spots_of places)).triangles
pieces_are_cuts places l =
    let spots : List Spot = spots_of places in
    let long = as_many_spots (plane_of places) 0 places in
    let cut = pieces_cut spots (omega (arith, l, long)) in (
      cut,
      cut_order 0 (length places) spots (pieces_of spots).triangles cut
          (spots_between (plane_of places) 0 (length places) places (omega arith)),
    )

-- What is told.
both_false : (a b : Bool) → (a || b) ≡ false → (a ≡ false) × (b ≡ false)
both_false true b e = absurd (true≢false e)
both_false false b e = (refl, e)

none_over : (ts : List Triangle) → list_any is_turned_over ts ≡ false
    → All (λ t. is_turned_over t ≡ false) ts
none_over [] e = All-nil (λ t. is_turned_over t ≡ false)
none_over (t ∷ ts) e =
    let parts = both_false (is_turned_over t) (list_any is_turned_over ts) e in
    All-cons (λ t. is_turned_over t ≡ false) t ts parts.0 (none_over ts parts.1)

IsUpright : Pieces → Type 0
IsUpright p = (p.kind ≡ kinds.OverlappingFan → ⊥) → All (λ t. is_turned_over t ≡ false) p.triangles

option_upright : (spots : List Spot) (o : Option (List Triangle)) → few_ears spots ≡ o
    → IsUpright (pieces_by (fan spots) o)
unfolding IsUpright
option_upright spots None e apart = absurd (apart refl)
option_upright spots (Some ts) e apart =
    ears_upright (length spots - 2) spots ts (few_ears_some spots ts e)

pub upright_unless_told : (spots : List Spot) → ((pieces_of spots).kind ≡ kinds.OverlappingFan → ⊥)
    → All (λ t. is_turned_over t ≡ false) (pieces_of spots).triangles
unfolding IsUpright
upright_unless_told spots =
    elim (cases_Bool (list_any is_turned_over (fan spots))) [
      | inl e ↦ subst IsUpright (sym (by_ears spots e)) (option_upright spots (few_ears spots) refl)
      | inr e ↦ subst IsUpright (sym (by_fan spots e)) (λ apart. none_over (fan spots) e)
    ]

is_overlapping : CutKind → Bool
is_overlapping kinds.Fan = false
is_overlapping kinds.Ears = false
is_overlapping kinds.OverlappingFan = true

IsTold : Pieces → Type 0
IsTold p = p.kind ≡ kinds.OverlappingFan → Any (λ t. is_turned_over t ≡ true) p.triangles

other_kind : (p : Pieces) → is_overlapping p.kind ≡ false → IsTold p
unfolding IsTold is_overlapping
other_kind p k told = absurd (true≢false (sym (ap is_overlapping told) ∙ k))

option_told : (spots : List Spot) (o : Option (List Triangle))
    → list_any is_turned_over (fan spots) ≡ true → IsTold (pieces_by (fan spots) o)
unfolding IsTold is_overlapping
option_told spots None e told = Any-from_list_any is_turned_over (fan spots) e
option_told spots (Some ts) e told = other_kind (pieces_by (fan spots) (Some ts)) refl told

pub overlaps_told : (spots : List Spot) → (pieces_of spots).kind ≡ kinds.OverlappingFan
    → Any (λ t. is_turned_over t ≡ true) (pieces_of spots).triangles
unfolding IsTold is_overlapping
overlaps_told spots =
    elim (cases_Bool (list_any is_turned_over (fan spots))) [
      | inl e ↦ subst IsTold (sym (by_ears spots e)) (option_told spots (few_ears spots) e)
      | inr e ↦
          let p : Pieces = record { kind = kinds.Fan; triangles = fan spots } in
          subst IsTold (sym (by_fan spots e)) (other_kind p refl)
    ]
