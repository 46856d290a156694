-- Places of the grid, spelled in units of 10^-18, stand on the grid as they are where faces use all
-- of them.
use Rattle.std.proofs.Common.{◌≡◌, ℕ, suc, ◌*◌, ◌^◌, ◌<◌, ◌≤◌, Bool, true, false}
use Rattle.std.proofs.lemmas.Grind.{common_steps}
use Rattle.std.proofs.Common.{nat_le, refl, sym, ap, ◌∙◌, None, List, [], ◌∷◌, length, map, get_or}
use Rattle.std.proofs.Common.{ℤ, pos, negsuc, arith}
use Rattle.std.specs.Prelude.{unsigned_abs}
use Rattle.std.specs.Int.Signed.{lt_z}
use Rattle.std.specs.List.{All, list_all}
use Rattle.std.proofs.lemmas.Bool.{cond-true, and_from, eq-eqb, le-leb, le-ltb, true≢false}
use Rattle.std.proofs.lemmas.List.{length-map}
use Rattle.std.proofs.lemmas.List.Elements.{All-map}
use Rattle.std.proofs.lemmas.List.Sums.{list_all-from_AllPass}
use borrow.Author.Differences.{ints}
use Rattle.pm_base.specs.declared.mesh.Corners.{Corners}
use Rattle.pm_base.specs.Place.{Place, IsPlace}
use Rattle.pm_base.specs.Sides.{net_of}
use Rattle.pm_base.specs.Fans.{IsUsed}
use Rattle.obj_read.specs.Coordinates.{with_sign}
use Rattle.obj_scan.specs.Laws.{in_units, scaled_up}
use Rattle.obj_prepare.specs.declared.placing.Fit.{Fit}
use Rattle.obj_prepare.specs.declared.placing.Fit.TheVariants as fits
use Rattle.obj_prepare.specs.Whole.{is_whole_coordinate, whole_part_of, stands_on_grid}
use Rattle.obj_prepare.specs.Named.{named_in, chosen}
use Rattle.obj_prepare.specs.Placing.{fit_for, places_by, fit_of, prepared_places_of}
use Rattle.obj_prepare.proofs.NamedLaws.{length-named_in, named_at}
use Rattle.obj_prepare.proofs.RestoredLaws.{used_named}
use Rattle.obj_fit.proofs.GridLaws.{chosen_all}

up_abs : (n : ℤ) → unsigned_abs (in_units n) ≡ 10 ^ 18 * unsigned_abs n
up_abs n = omega (arith, ints)

up_whole : (n : ℤ) → unsigned_abs n ≤ 32767 → is_whole_coordinate (in_units n) ≡ true
up_whole n few = grind (arith, common_steps, and_from, eq-eqb, le-leb, nat_le, up_abs)

sign_back : (n : ℤ) → with_sign (lt_z n (pos 0)) (unsigned_abs n) ≡ n
sign_back (pos n) = rw (le-ltb n 0 (omega arith)) refl
sign_back (negsuc n) = refl

up_sign : (n : ℤ) → lt_z (in_units n) (pos 0) ≡ lt_z n (pos 0)
up_sign n = grind (arith, ints)

up_back : (n : ℤ) → whole_part_of (in_units n) ≡ n
up_back n = grind (arith, common_steps, sign_back, up_abs, up_sign)

place_stands : (p : Place) → IsPlace p → stands_on_grid (scaled_up p) ≡ true
place_stands p (x, y, z) =
    and_from _ _ (and_from _ _ (up_whole p.x x) (up_whole p.y y)) (up_whole p.z z)

fit_none : (ps : List Place) → list_all stands_on_grid ps ≡ true → fit_for None ps ≡ fits.Standing
fit_none [] all = refl
fit_none (p ∷ ps) all = cond-true _ _ _ all

-- Places that are spelled so need no scaling.
pub standing_fit : (places : List Place) (faces : List Corners) → All IsPlace places
    → fit_of None (map scaled_up places) faces ≡ fits.Standing
standing_fit places faces all =
    let points = map scaled_up places in
    let flags = named_in faces (length points) in
    let Stands : Place → Type 0 = λ p. stands_on_grid p ≡ true in
    fit_none (chosen flags points)
    (list_all-from_AllPass stands_on_grid (chosen flags points)
    (chosen_all Stands flags points
    (All-map Stands scaled_up places (λ i d l. place_stands (get_or places i d) (all i d l)))))

places_back : (flags : List Bool) (ps : List Place) → length flags ≡ length ps
    → ((v : ℕ) → v < length ps → get_or flags v false ≡ true)
    → places_by fits.Standing flags (map scaled_up ps) ≡ ps
places_back [] [] same named = refl
places_back [] (p ∷ ps) same named = absurd (omega (arith, same))
places_back (f ∷ flags) [] same named = refl
places_back (true ∷ flags) (p ∷ ps) same named =
    let x = up_back p.x in
    let y = up_back p.y in
    let z = up_back p.z in
    let rest = places_back flags ps (omega (arith, same))
    (λ v l. named (suc v) (omega (arith, l))) in
    let here : Place =
    record {
      x = whole_part_of (in_units p.x);
      y = whole_part_of (in_units p.y);
      z =
          whole_part_of (in_units p.z);
    } in
    let first : here ≡ p = λ i. record { x = x i; y = y i; z = z i } in
    λ i. first i ∷ rest i
places_back (false ∷ flags) (p ∷ ps) same named = absurd (true≢false (sym (named 0 (omega arith))))

-- And they are the places.
pub standing_places : (places : List Place) (faces : List Corners) → All IsPlace places
    → ((v : ℕ) → v < length places → IsUsed (net_of faces) v)
    → prepared_places_of None (map scaled_up places) faces ≡ places
standing_places places faces all used =
    let points = map scaled_up places in
    let long : length points ≡ length places = length-map places scaled_up in
    let flags = named_in faces (length points) in
    let count : length flags ≡ length places = length-named_in faces (length points) ∙ long in
    ap (λ (f : Fit). places_by f flags points) (standing_fit places faces all)
    ∙ places_back flags places count
    (λ v l. named_at faces (length points) v (omega (arith, long, l))
    ∙ used_named faces v (used v l))
