-- Points that are brought onto the grid stand on it, and the box by which they are is no larger
-- than they are.
use Rattle.std.proofs.Common.{◌≡◌, ℕ, zero, suc, ◌<◌, ◌≤◌, Bool, true, false}
use Rattle.std.proofs.lemmas.Grind.{common_steps}
use Rattle.std.proofs.Common.{◌==◌, nat_le, refl, length, Option, Some}
use Rattle.std.proofs.Common.{None, List, [], ◌∷◌, map, get_or, ℤ, arith}
use Rattle.std.specs.Prelude.{unsigned_abs}
use Rattle.std.specs.List.{All}
use Rattle.std.proofs.lemmas.Bool.{cond-true, cond-false, and_parts, leb-true}
use Rattle.std.proofs.lemmas.Bool.Decides.{nat_tests}
use Rattle.std.proofs.lemmas.Int.{clamps}
use Rattle.std.proofs.lemmas.List.Elements.{All-nil, All-cons, All-head, All-tail, All-map}
use Rattle.pm_base.specs.declared.mesh.Corners.{Corners}
use Rattle.pm_base.specs.Place.{Place, IsPlace, origin}
use Rattle.obj_read.proofs.DecimalLaws.{with_sign_abs}
use Rattle.obj_prepare.specs.declared.extents.PointBox.{PointBox}
use Rattle.obj_prepare.specs.declared.placing.Fit.{Fit}
use Rattle.obj_prepare.specs.declared.placing.Fit.TheVariants as fits
use Rattle.obj_prepare.specs.Exact.{lower, upper, AreExact}
use Rattle.obj_prepare.specs.Boxes.{along, least_of_places, greatest_of_places}
use Rattle.obj_prepare.specs.Boxes.{box_of_points, IsInBox, extent, scaled}
use Rattle.obj_prepare.specs.Whole.{is_whole_coordinate, whole_part_of}
use Rattle.obj_prepare.specs.Named.{chosen, named_in}
use Rattle.obj_prepare.specs.Placing.{fit_for, Suits, placed, places_by, fit_of, prepared_places_of}
use Rattle.obj_prepare.specs.Placing.{IsSize}
use Rattle.obj_prepare.specs.Joining.{place_in_list}
use Rattle.obj_prepare.proofs.BoxLaws.{off_within, extent_most}
use Rattle.obj_prepare.proofs.NearestLaws.{nearest_within}
use Rattle.obj_prepare.proofs.PlacingLaws.{fit_suits}

along_within : (size extent : ℕ) (off : ℤ) → 0 < extent → unsigned_abs off ≤ extent
    → unsigned_abs (along size extent off) ≤ size
unfolding along
along_within size extent off some within =
    grind (arith, common_steps, nearest_within, with_sign_abs)

scaled_case : (size : ℕ) (b : PointBox) (p : Place) (flat : Bool) → (extent b == 0) ≡ flat
    → size ≤ 32767 → IsInBox b p → IsPlace (scaled size b p)
unfolding scaled
scaled_case size b p true is few inside = rw is (omega arith, omega arith, omega arith)
scaled_case size b p false is few inside =
    grind (arith, common_steps, nat_tests, off_within, along_within size, extent_most b)

whole_small : (n : ℤ) → is_whole_coordinate n ≡ true → unsigned_abs (whole_part_of n) ≤ 32767
whole_small n is = grind (arith, common_steps, and_parts, leb-true, nat_le, with_sign_abs)

placed_on_grid : (fit : Fit) (p : Place) → Suits fit p → IsPlace (placed fit p)
placed_on_grid fits.Standing p is = grind (arith, common_steps, and_parts, whole_small)
placed_on_grid (fits.Scaled size b) p (few, inside) =
    scaled_case size b p (extent b == 0) refl few inside

origin_on_grid : IsPlace origin
origin_on_grid = (omega arith, omega arith, omega arith)

places_by_on_grid : (fit : Fit) (flags : List Bool) (ps : List Place)
    → All (Suits fit) (chosen flags ps) → All IsPlace (places_by fit flags ps)
places_by_on_grid fit [] ps suit = All-nil IsPlace
places_by_on_grid fit (f ∷ flags) [] suit = All-nil IsPlace
places_by_on_grid fit (true ∷ flags) (p ∷ ps) suit =
    All-cons IsPlace (placed fit p) (places_by fit flags ps)
    (placed_on_grid fit p (All-head (Suits fit) p (chosen flags ps) suit))
    (places_by_on_grid fit flags ps (All-tail (Suits fit) p (chosen flags ps) suit))
places_by_on_grid fit (false ∷ flags) (p ∷ ps) suit =
    All-cons IsPlace origin (places_by fit flags ps) origin_on_grid
    (places_by_on_grid fit flags ps suit)

pub places_on_grid : (size : Option ℕ) (points : List Place) (faces : List Corners) → IsSize size
    → All IsPlace (prepared_places_of size points faces)
places_on_grid size points faces is =
    let flags = named_in faces (length points) in
    places_by_on_grid (fit_of size points faces) flags points
    (fit_suits size (chosen flags points) is)

at_on_grid : (places : List Place) (v : ℕ) → All IsPlace places → IsPlace (place_in_list places v)
at_on_grid [] v all = origin_on_grid
at_on_grid (p ∷ places) zero all = All-head IsPlace p places all
at_on_grid (p ∷ places) (suc v) all = at_on_grid places v (All-tail IsPlace p places all)

-- So do points of which each has the place of one of them.
pub taken_on_grid : (places : List Place) (old : List ℕ) → All IsPlace places
    → All IsPlace (map (place_in_list places) old)
taken_on_grid places old all =
    All-map IsPlace (place_in_list places) old (λ i d l. at_on_grid places (get_or old i d) all)

-- The box of points of which each is exact.

lower_exact : (p q : Place) → AreExact p → AreExact q → AreExact (lower p q)
lower_exact p q (a, b, c) (d, e, f) = grind (arith, common_steps, clamps)

upper_exact : (p q : Place) → AreExact p → AreExact q → AreExact (upper p q)
upper_exact p q (a, b, c) (d, e, f) = grind (arith, common_steps, clamps)

least_exact : (p : Place) (ps : List Place) → AreExact p → All AreExact ps
    → AreExact (least_of_places p ps)
least_exact p [] exact all = exact
least_exact p (q ∷ qs) exact all =
    least_exact (lower p q) qs (lower_exact p q exact (All-head AreExact q qs all))
    (All-tail AreExact q qs all)

greatest_exact : (p : Place) (ps : List Place) → AreExact p → All AreExact ps
    → AreExact (greatest_of_places p ps)
greatest_exact p [] exact all = exact
greatest_exact p (q ∷ qs) exact all =
    greatest_exact (upper p q) qs (upper_exact p q exact (All-head AreExact q qs all))
    (All-tail AreExact q qs all)

-- The size is at most 32,767, and the ends of the box are exact.
abbrev pub IsMeasured : Fit → Type 0
IsMeasured fits.Standing = Unit {0}
IsMeasured (fits.Scaled size b) = (size ≤ 32767) × AreExact b.low × AreExact b.high

boxed : (n : ℕ) (p : Place) (ps : List Place) → n ≤ 32767 → All AreExact (p ∷ ps)
    → IsMeasured (fits.Scaled n (box_of_points p ps))
boxed n p ps few all =
    let here = All-head AreExact p ps all in
    let more = All-tail AreExact p ps all in
    (few, least_exact p ps here more, greatest_exact p ps here more)

fit_measured : (size : Option ℕ) (ps : List Place) → IsSize size → All AreExact ps
    → IsMeasured (fit_for size ps)
fit_measured size [] is all = tt
fit_measured (Some n) (p ∷ ps) is all = boxed n p ps is.1 all
fit_measured None (p ∷ ps) is all = grind (arith, common_steps, boxed, cond-false, cond-true)

pub chosen_all : (P : Place → Type 0) (flags : List Bool) (ps : List Place) → All P ps
    → All P (chosen flags ps)
chosen_all P [] ps all = All-nil P
chosen_all P (true ∷ flags) [] all = All-nil P
chosen_all P (false ∷ flags) [] all = All-nil P
chosen_all P (true ∷ flags) (p ∷ ps) all =
    All-cons P p (chosen flags ps) (All-head P p ps all)
    (chosen_all P flags ps (All-tail P p ps all))
chosen_all P (false ∷ flags) (p ∷ ps) all = chosen_all P flags ps (All-tail P p ps all)

pub fit_of_measured : (size : Option ℕ) (points : List Place) (faces : List Corners) → IsSize size
    → All AreExact points → IsMeasured (fit_of size points faces)
fit_of_measured size points faces is all =
    let flags = named_in faces (length points) in
    fit_measured size (chosen flags points) is (chosen_all AreExact flags points all)
