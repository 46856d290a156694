-- Corners one after the other: counted, searched, and placed on a plane.
use Rattle.std.proofs.Common.{◌≡◌, ℕ, zero, suc, ◌+◌, ◌-◌, ◌^◌, ◌<◌, ◌≤◌, w64, to_z, of_z, Bool}
use Rattle.std.proofs.lemmas.Grind.{common_steps}
use Rattle.std.proofs.Common.{true, false, ◌||◌, Some, None, List, [], ◌∷◌, ◌++◌, length, drop}
use Rattle.std.proofs.Common.{slice_index_or, refl, sym, ap, ◌∙◌, arith}
use Rattle.std.specs.Prelude.{ℤ, ◌==◌, ◌+ℤ◌, pos, unsigned_abs, map}
use Rattle.std.specs.List.{list_any}
use Rattle.std.proofs.lemmas.Bool.{cond-true, cond-false, false≢true}
use Rattle.std.proofs.lemmas.List.{append_assoc, at_drop_more, at_drop_all}
use Rattle.std.proofs.lemmas.Int.{to_z-of_z, fits_signed_from_abs}
use mir.Val.{bool_byte}
use Rattle.pm_base.specs.Counts.{one_if}
use Rattle.pm_base.specs.Place.{Place}
use Rattle.pm_base.specs.declared.mesh.Corners.{Corners}
use Rattle.pm_ears.specs.declared.spots.Spot.{Spot}
use Rattle.pm_ears.specs.declared.spots.Triangle.{Triangle}
use Rattle.pm_ears.specs.declared.plane.Plane.{Plane}
use Rattle.pm_ears.specs.Areas.{cross_of, along, last_from, twice_area_within, lies_in, inside_of}
use Rattle.pm_ears.specs.Areas.{nowhere}
use Rattle.pm_ears.specs.Planes.{spot_of, spots_on}
use Rattle.pm_ears.specs.Ears.{first_from}
use Rattle.pm_ears.specs.Fans.{fan, fan_from, has_area}
use Rattle.pm_ears.specs.Cutting.{is_turned_over, named}
use Rattle.pm_ears.specs.Counted.{fan_triangle}

pub inside_next : (t : Triangle) (spots : List Spot) (i : ℕ) → i < length spots
    → inside_of t (drop i spots)
    ≡ one_if (lies_in t (slice_index_or spots i nowhere)) + inside_of t (drop (i + 1) spots)
unfolding inside_of
inside_next t spots i l = at_drop_more (inside_of t) spots i nowhere l

pub byte_one : (b : Bool) → bool_byte b ≡ one_if b
byte_one true = refl
byte_one false = refl

pub inside_end : (t : Triangle) (spots : List Spot) (i : ℕ) → length spots ≤ i
    → inside_of t (drop i spots) ≡ 0
unfolding inside_of
inside_end t spots i l = at_drop_all (inside_of t) spots i l

-- Searching.
pub first_here : (test : ℕ → Bool) (i n : ℕ) → i < n → test i ≡ true
    → first_from test i (n - i) ≡ Some i
first_here test i n l e =
    let k : n - i ≡ suc (n - (i + 1)) = omega (arith, l) in rw k (cond-true _ _ _ e)

pub first_later : (test : ℕ → Bool) (i n : ℕ) → i < n → test i ≡ false
    → first_from test i (n - i) ≡ first_from test (i + 1) (n - (i + 1))
first_later test i n l e =
    let k : n - i ≡ suc (n - (i + 1)) = omega (arith, l) in rw k (cond-false _ _ _ e)

pub first_past : (test : ℕ → Bool) (i n : ℕ) → n ≤ i → first_from test i (n - i) ≡ None
first_past test i n l = let k : n - i ≡ 0 = omega (arith, l) in rw k refl

-- Fans.
pub fan_begins : (spots : List Spot)
    → fan_from (slice_index_or spots 0 nowhere) (drop 1 spots) ≡ fan spots
fan_begins [] = refl
fan_begins (a ∷ more) = refl

pub fan_next : (spots : List Spot) (i : ℕ) → i + 1 < length spots
    → fan_from (slice_index_or spots 0 nowhere) (drop i spots)
    ≡ fan_triangle spots i ∷ fan_from (slice_index_or spots 0 nowhere) (drop (i + 1) spots)
fan_next spots i l = grind (arith, common_steps, at_drop_more, slice_index_or)

pub turned_next : (spots : List Spot) (i : ℕ) (b : Bool) → i + 1 < length spots
    → is_turned_over (fan_triangle spots i) ≡ b
    → list_any is_turned_over (fan_from (slice_index_or spots 0 nowhere) (drop i spots))
    ≡ (b || list_any is_turned_over
    (fan_from (slice_index_or spots 0 nowhere) (drop (i + 1) spots)))
turned_next spots i b l e = grind (arith, common_steps, fan_next, slice_index_or)

pub area_next : (spots : List Spot) (i : ℕ) (b : Bool) → i + 1 < length spots
    → has_area (fan_triangle spots i) ≡ b
    → list_any has_area (fan_from (slice_index_or spots 0 nowhere) (drop i spots))
    ≡ (b || list_any has_area
    (fan_from (slice_index_or spots 0 nowhere) (drop (i + 1) spots)))
area_next spots i b l e = grind (arith, common_steps, fan_next, slice_index_or)

pub fan_more : (spots : List Spot) (i : ℕ) (done more : List Corners) (t : Corners)
    → i + 1 < length spots → t ≡ named (fan_triangle spots i) → more ≡ done ++ t ∷ []
    → more ++ map named (fan_from (slice_index_or spots 0 nowhere) (drop (i + 1) spots))
    ≡ done ++ map named (fan_from (slice_index_or spots 0 nowhere) (drop i spots))
fan_more spots i done more t l is put =
    grind (arith, common_steps, append_assoc, fan_next, slice_index_or)

pub fan_ends : (spots : List Spot) (a : Spot) (k : ℕ) → length spots ≤ k + 1
    → fan_from a (drop k spots) ≡ []
fan_ends [] a k l = at_drop_all (fan_from a) [] k (omega arith)
fan_ends (p ∷ []) a zero l = refl
fan_ends (p ∷ q ∷ more) a zero l = absurd (omega (arith, l))
fan_ends (p ∷ more) a (suc k) l = fan_ends more a k (omega (arith, l))

-- Corners on a plane.
pub spots_next : (plane : Plane) (done : List Spot) (i : ℕ) (places : List Place) (p : Place)
    → i < length places → p ≡ slice_index_or places i p
    → done ++ spots_on plane i (drop i places)
    ≡ (done ++ spot_of plane i p ∷ []) ++ spots_on plane (i + 1) (drop (i + 1) places)
spots_next plane done i places p l is = grind (arith, common_steps, append_assoc, at_drop_more)

pub as_many_spots : (plane : Plane) (i : ℕ) (places : List Place)
    → length (spots_on plane i places) ≡ length places
as_many_spots plane i [] = refl
as_many_spots plane i (p ∷ more) = ap suc (as_many_spots plane (i + 1) more)

pub spot_on : (plane : Plane) (i : ℕ) (places : List Place) (k : ℕ) (d : Spot) (e : Place)
    → k < length places
    → slice_index_or (spots_on plane i places) k d
    ≡ spot_of plane (i + k) (slice_index_or places k e)
spot_on plane i [] k d e l = absurd (omega (arith, l))
spot_on plane i (p ∷ more) zero d e l = let z : i + 0 ≡ i = omega arith in rw z refl
spot_on plane i (p ∷ more) (suc k) d e l =
    let z : i + suc k ≡ (i + 1) + k =
    omega arith in rw z (spot_on plane (i + 1) more k d e (omega (arith, l)))

pub spot_on_plane : (plane : Plane) (places : List Place) (k : ℕ) (e : Place) → k < length places
    → slice_index_or (spots_on plane 0 places) k nowhere
    ≡ spot_of plane k (slice_index_or places k e)
spot_on_plane plane places k e l =
    grind (arith, common_steps, slice_index_or places k e, spot_on plane 0 places k nowhere e l)

-- A triangle of the fan there.
pub seen_fan : (plane : Plane) (places : List Place) (i : ℕ) (p q r : Place)
    → i + 1 < length places
    → p ≡ slice_index_or places 0 p → q ≡ slice_index_or places i q
    → r ≡ slice_index_or places (i + 1) r → (t : Triangle) → t.a ≡ spot_of plane 0 p
    → t.b ≡ spot_of plane i q → t.c ≡ spot_of plane (i + 1) r
    → t ≡ fan_triangle (spots_on plane 0 places) i
seen_fan plane places i p q r l first second third t a b c =
    let at_a = a ∙ ap (spot_of plane 0) first
    ∙ sym (spot_on_plane plane places 0 p (omega (arith, l))) in
    let at_b = b ∙ ap (spot_of plane i) second
    ∙ sym (spot_on_plane plane places i q (omega (arith, l))) in
    let at_c = c ∙ ap (spot_of plane (i + 1)) third
    ∙ sym (spot_on_plane plane places (i + 1) r l) in
    rw (sym at_a, sym at_b, sym at_c) refl

-- An area stands in 64 bits.
pub area_kept : (x : ℤ) → unsigned_abs x ≤ 2 ^ 53 → to_z w64 (of_z w64 x) ≡ x
area_kept x p = to_z-of_z w64 x (fits_signed_from_abs w64 x (omega (arith, p)))

pub some_long : (n : ℕ) → false ≡ (n == 0) → 0 < n
some_long zero e = absurd (false≢true e)
some_long (suc n) e = omega arith

-- Areas along a row.
pub along_next : (spots : List Spot) (i : ℕ) → i + 1 < length spots
    → along (drop i spots)
    ≡ cross_of (slice_index_or spots i nowhere) (slice_index_or spots (i + 1) nowhere) +ℤ along
    (drop (i + 1) spots)
along_next [] i l = absurd (omega (arith, l))
along_next (p ∷ []) i l = absurd (omega (arith, l))
along_next (p ∷ q ∷ more) zero l = refl
along_next (p ∷ q ∷ more) (suc i) l =
    let z : suc i + 1 ≡ suc (i + 1) =
    omega arith in rw z (along_next (q ∷ more) i (omega (arith, l)))

pub along_ends : (spots : List Spot) (i : ℕ) → length spots ≤ i + 1 → along (drop i spots) ≡ pos 0
along_ends [] i l = at_drop_all along [] i (omega arith)
along_ends (p ∷ []) zero l = refl
along_ends (p ∷ q ∷ more) zero l = absurd (omega (arith, l))
along_ends (p ∷ more) (suc i) l = along_ends more i (omega (arith, l))

last_at : (p : Spot) (more : List Spot)
    → last_from p more ≡ slice_index_or (p ∷ more) (length more) nowhere
last_at p [] = refl
last_at p (q ∷ more) = last_at q more

pub within_by_ends : (spots : List Spot) (n : ℕ) → length spots ≡ n + 1
    → twice_area_within spots
    ≡ along spots +ℤ cross_of (slice_index_or spots n nowhere) (slice_index_or spots 0 nowhere)
within_by_ends [] n l = absurd (omega (arith, l))
within_by_ends (p ∷ more) n l =
    let m : length more ≡ n = omega (arith, l) in
    ap (λ q. along (p ∷ more) +ℤ cross_of q p) (last_at p more
    ∙ ap (λ i. slice_index_or (p ∷ more) i nowhere) m)
