-- Places lead back to the points that were read.
use Rattle.std.proofs.Common.{◌≡◌, ℕ, zero, suc, ◌+◌, ◌*◌, ◌/◌, ◌%◌, ◌^◌, ◌<◌, ◌≤◌, Bool, true}
use Rattle.std.proofs.lemmas.Grind.{common_steps}
use Rattle.std.proofs.Common.{false, ◌==◌, nat_le, refl, sym, ap, ◌∙◌, subst}
use Rattle.std.proofs.Common.{Option, Some, None, List, [], ◌∷◌, length, get_or, ℤ, pos, arith}
use Rattle.std.specs.Prelude.{◌+ℤ◌, ◌-ℤ◌, ◌*ℤ◌, ◌≤ℤ◌, neg_ℤ, unsigned_abs}
use Rattle.std.specs.Int.Signed.{lt_z}
use Rattle.std.proofs.lemmas.Bool.{cond-true, cond-false, and_parts, eqb-true}
use Rattle.std.proofs.lemmas.Bool.{true≢false}
use Rattle.std.proofs.lemmas.Bool.Decides.{nat_tests}
use borrow.Author.Differences.{ints, up, down, product_is}
use Rattle.pm_base.specs.declared.mesh.Corners.{Corners}
use Rattle.pm_base.specs.Place.{Place, origin}
use Rattle.obj_read.specs.Coordinates.{with_sign}
use Rattle.obj_prepare.specs.declared.extents.PointBox.{PointBox}
use Rattle.obj_prepare.specs.declared.placing.Fit.{Fit}
use Rattle.obj_prepare.specs.declared.placing.Fit.TheVariants as fits
use Rattle.obj_prepare.specs.Numbers.{nearest}
use Rattle.obj_prepare.specs.Boxes.{along, off_middle, IsInBox, extent, scaled}
use Rattle.obj_prepare.specs.Whole.{is_whole_coordinate, whole_part_of, stands_on_grid}
use Rattle.obj_prepare.specs.Named.{is_some_corner, chosen, named_in}
use Rattle.obj_prepare.specs.Joining.{place_in_list}
use Rattle.obj_prepare.specs.Placing.{fit_for, Suits, placed, places_by, fit_of, prepared_places_of}
use Rattle.obj_prepare.specs.Placing.{IsSize}
use Rattle.obj_prepare.specs.Back.{middle, way_back_of, LeadsNear, StandsAt, LeadsBack}
use Rattle.obj_prepare.proofs.BoxLaws.{extent_most}
use Rattle.obj_prepare.proofs.NearestLaws.{nearest_is_near}
use Rattle.obj_prepare.proofs.NamedLaws.{length-named_in, named_at}
use Rattle.obj_prepare.proofs.PlacingLaws.{fit_suits, chosen_has}

-- The way between the coordinate that is given back and the one that was read, times twice the
-- size.
abbrev off_by : ℕ → ℕ → ℤ → ℤ → ℤ → ℤ → ℤ
off_by size e n low high place =
    ((pos (10 * e) *ℤ place) +ℤ (pos (2 * size) *ℤ middle low high)) -ℤ (pos (10 * (2 * size)) *ℤ n)

middle_is : (low high : ℤ) → up (middle low high) + 5 * (down low + down high)
    ≡ down (middle low high) + 5 * (up low + up high)
middle_is low high = omega (arith, ints)

-- A place above the middle, and one below it: r is the place and m the way from the middle without
-- their signs.
above : (size e r m : ℕ) (n low high : ℤ) → 2 * (e * r) ≤ 2 * (size * m) + e
    → 2 * (size * m) ≤ 2 * (e * r) + e → off_middle n low high ≡ pos m
    → 2 * unsigned_abs (off_by size e n low high (pos r)) ≤ 10 * e
above size e r m n low high most least is =
    let way : up n + up n + (down low + down high) ≡ down n + down n + (up low + up high) + m =
    omega (arith, ints, is) in
    let way' = ap (λ (t : ℕ). size * t) way in
    let mid = ap (λ (t : ℕ). size * t) (middle_is low high) in
    omega (
      arith,
      ints,
      product_is (pos (10 * e)) (pos r),
      product_is (pos (2 * size))
          (middle low high),
      product_is (pos (10 * (2 * size))) n,
      way',
      mid,
      most,
      least,
    )

below : (size e r m : ℕ) (n low high : ℤ) → 2 * (e * r) ≤ 2 * (size * m) + e
    → 2 * (size * m) ≤ 2 * (e * r) + e → off_middle n low high ≡ neg_ℤ (pos m)
    → 2 * unsigned_abs (off_by size e n low high (neg_ℤ (pos r))) ≤ 10 * e
below size e r m n low high most least is =
    let way : up n + up n + (down low + down high) + m ≡ down n + down n + (up low + up high) =
    omega (arith, ints, is) in
    let way' = ap (λ (t : ℕ). size * t) way in
    let mid = ap (λ (t : ℕ). size * t) (middle_is low high) in
    let turned : (up (neg_ℤ (pos r)) ≡ 0) × (down (neg_ℤ (pos r)) ≡ r) =
    (omega (arith, ints), omega (arith, ints)) in
    let zero_part = ap (λ (t : ℕ). e * t) turned.0 in
    let whole_part = ap (λ (t : ℕ). e * t) turned.1 in
    omega (
      arith,
      ints,
      product_is (pos (10 * e)) (neg_ℤ (pos r)),
      product_is (pos (2 * size))
          (middle low high),
      product_is (pos (10 * (2 * size))) n,
      way',
      mid,
      zero_part,
      whole_part,
      most,
      least,
    )

signed_near : (size e : ℕ) (n low high : ℤ) (negative : Bool) → 0 < e
    → lt_z (off_middle n low high) (pos 0) ≡ negative
    → 2 * unsigned_abs
    (off_by size e n low high
    (with_sign negative (nearest (size * unsigned_abs (off_middle n low high)) e))) ≤ 10 * e
signed_near size e n low high true some is = grind (arith, common_steps, below, nearest_is_near)
signed_near size e n low high false some is = grind (arith, common_steps, above, nearest_is_near)

axis_near : (size e : ℕ) (n low high : ℤ) → 0 < e
    → 2 * unsigned_abs (off_by size e n low high (along size e (off_middle n low high))) ≤ 10 * e
unfolding along
axis_near size e n low high some =
    signed_near size e n low high (lt_z (off_middle n low high) (pos 0)) some refl

-- An axis without a length.
axis_flat : (size e : ℕ) (n low high : ℤ) → e ≡ 0 → low ≤ℤ n → n ≤ℤ high
    → unsigned_abs (high -ℤ low) ≤ e → 2 * unsigned_abs (off_by size e n low high (pos 0)) ≤ 10 * e
axis_flat size e n low high none from to long =
    above size e 0 0 n low high (omega arith) (omega arith)
    (omega (arith, ints, none, from, to, long))

scaled_leads : (size : ℕ) (b : PointBox) (p : Place) (flat : Bool) → (extent b == 0) ≡ flat
    → 0 < size → IsInBox b p → LeadsNear (way_back_of size b) (scaled size b p) p
unfolding scaled
scaled_leads size b p true is some inside =
    grind (arith, common_steps, axis_flat size (extent b), eqb-true (extent b) 0 is, extent_most b)
scaled_leads size b p false is some inside = grind (arith, common_steps, axis_near, nat_tests)

-- A whole number of 10^18 units.
signed_whole : (n : ℤ) (negative : Bool) → lt_z n (pos 0) ≡ negative → unsigned_abs n % 10 ^ 18 ≡ 0
    → n ≡ pos (10 ^ 18) *ℤ with_sign negative (unsigned_abs n / 10 ^ 18)
signed_whole n true is none = omega (arith, ints, is, none)
signed_whole n false is none = omega (arith, ints, is, none)

whole_leads : (n : ℤ) → is_whole_coordinate n ≡ true → n ≡ pos (10 ^ 18) *ℤ whole_part_of n
whole_leads n is = grind (arith, common_steps, and_parts, eqb-true, nat_le, signed_whole)

standing_leads : (p : Place) → stands_on_grid p ≡ true → StandsAt (placed fits.Standing p) p
standing_leads p is = grind (arith, common_steps, and_parts, whole_leads)

-- A size that is at least 1.
abbrev HasSteps : Fit → Type 0
HasSteps fits.Standing = Unit {0}
HasSteps (fits.Scaled size b) = 0 < size

placed_leads : (fit : Fit) (p : Place) → HasSteps fit → Suits fit p → LeadsBack fit (placed fit p) p
placed_leads fits.Standing p some suits = standing_leads p suits
placed_leads (fits.Scaled size b) p some suits =
    scaled_leads size b p (extent b == 0) refl some suits.1

fit_has_steps : (size : Option ℕ) (ps : List Place) → IsSize size → HasSteps (fit_for size ps)
fit_has_steps size [] is = tt
fit_has_steps (Some n) (p ∷ ps) is = is.0
fit_has_steps None (p ∷ ps) is = grind (arith, common_steps, cond-false, cond-true)

-- The place of a point whose flag is set.
place_at : (fit : Fit) (flags : List Bool) (ps : List Place) (v : ℕ) → length flags ≡ length ps
    → v < length ps → get_or flags v false ≡ true
    → place_in_list (places_by fit flags ps) v ≡ placed fit (place_in_list ps v)
place_at fit flags [] v same l is = absurd (omega (arith, l))
place_at fit [] (p ∷ ps) v same l is = absurd (omega (arith, same))
place_at fit (true ∷ flags) (p ∷ ps) zero same l is = refl
place_at fit (false ∷ flags) (p ∷ ps) zero same l is = absurd (true≢false (sym is))
place_at fit (f ∷ flags) (p ∷ ps) (suc v) same l is =
    place_at fit flags ps v (omega (arith, same)) (omega (arith, l)) is

pub places_lead_back : (size : Option ℕ) (points : List Place) (faces : List Corners) (v : ℕ)
    → IsSize size → v < length points → is_some_corner faces v ≡ true
    → LeadsBack (fit_of size points faces) (place_in_list (prepared_places_of size points faces) v)
    (place_in_list points v)
places_lead_back size points faces v is l named =
    let flags : List Bool = named_in faces (length points) in
    let fit : Fit = fit_of size points faces in
    let long : length flags ≡ length points = length-named_in faces (length points) in
    let set : get_or flags v false ≡ true = named_at faces (length points) v l ∙ named in
    let suits = chosen_has (Suits fit) flags points v origin long l set
    (fit_suits size (chosen flags points) is) in
    subst (λ (place : Place). LeadsBack fit place (place_in_list points v))
    (sym (place_at fit flags points v long l set))
    (placed_leads fit (place_in_list points v) (fit_has_steps size (chosen flags points) is) suits)
