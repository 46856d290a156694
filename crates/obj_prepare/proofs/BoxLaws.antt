-- Laws of boxes.
use Rattle.std.proofs.Common.{◌≡◌, ℕ, zero, suc, ◌<◌, ◌≤◌, List, [], ◌∷◌, length, get_or}
use Rattle.std.proofs.lemmas.Grind.{common_steps}
use Rattle.std.proofs.Common.{arith}
use Rattle.std.specs.Prelude.{ℤ, ◌-ℤ◌, ◌≤ℤ◌, unsigned_abs}
use Rattle.std.proofs.lemmas.Bool.{ne_eqb}
use Rattle.std.proofs.lemmas.Int.{clamps}
use borrow.Author.Differences.{ints}
use Rattle.pm_base.specs.Place.{Place}
use Rattle.obj_prepare.specs.declared.extents.PointBox.{PointBox}
use Rattle.obj_prepare.specs.Boxes.{along, off_middle, least_of_places, greatest_of_places}
use Rattle.obj_prepare.specs.Boxes.{box_of_points, IsInBox, extent, scaled}
use Rattle.obj_prepare.specs.Exact.{lower, upper}

-- Between the ends of an axis twice the way from the middle is at most the way between them.
pub off_within : (n low high : ℤ) → low ≤ℤ n → n ≤ℤ high
    → unsigned_abs (off_middle n low high) ≤ unsigned_abs (high -ℤ low)
off_within n low high a b = omega (arith, ints)

-- No axis is longer than the longest one.
pub extent_most : (b : PointBox) → (unsigned_abs (b.high.x -ℤ b.low.x) ≤ extent b)
    × (unsigned_abs (b.high.y -ℤ b.low.y) ≤ extent b)
    × (unsigned_abs (b.high.z -ℤ b.low.z) ≤ extent b)
unfolding extent
extent_most b = (omega arith, omega arith, omega arith)

least_first : (p : Place) (qs : List Place) → ((least_of_places p qs).x ≤ℤ p.x)
    × ((least_of_places p qs).y ≤ℤ p.y) × ((least_of_places p qs).z ≤ℤ p.z)
least_first p [] = (omega (arith, ints), omega (arith, ints), omega (arith, ints))
least_first p (q ∷ qs) =
    let (x, y, z) = least_first (lower p q) qs in
    (omega (arith, ints, clamps, x), omega (arith, ints, clamps, y), omega (arith, ints, clamps, z))

greatest_first : (p : Place) (qs : List Place) → (p.x ≤ℤ (greatest_of_places p qs).x)
    × (p.y ≤ℤ (greatest_of_places p qs).y) × (p.z ≤ℤ (greatest_of_places p qs).z)
greatest_first p [] = (omega (arith, ints), omega (arith, ints), omega (arith, ints))
greatest_first p (q ∷ qs) =
    let (x, y, z) = greatest_first (upper p q) qs in
    (omega (arith, ints, clamps, x), omega (arith, ints, clamps, y), omega (arith, ints, clamps, z))

least_each : (p : Place) (qs : List Place) (i : ℕ) (d : Place) → i < length qs
    → ((least_of_places p qs).x ≤ℤ (get_or qs i d).x)
    × ((least_of_places p qs).y ≤ℤ (get_or qs i d).y)
    × ((least_of_places p qs).z ≤ℤ (get_or qs i d).z)
least_each p [] i d lt = absurd (omega (arith, lt))
least_each p (q ∷ qs) zero d lt =
    let (x, y, z) = least_first (lower p q) qs in
    (omega (arith, ints, clamps, x), omega (arith, ints, clamps, y), omega (arith, ints, clamps, z))
least_each p (q ∷ qs) (suc i) d lt = least_each (lower p q) qs i d (omega (arith, lt))

greatest_each : (p : Place) (qs : List Place) (i : ℕ) (d : Place) → i < length qs
    → ((get_or qs i d).x ≤ℤ (greatest_of_places p qs).x)
    × ((get_or qs i d).y ≤ℤ (greatest_of_places p qs).y)
    × ((get_or qs i d).z ≤ℤ (greatest_of_places p qs).z)
greatest_each p [] i d lt = absurd (omega (arith, lt))
greatest_each p (q ∷ qs) zero d lt =
    let (x, y, z) = greatest_first (upper p q) qs in
    (omega (arith, ints, clamps, x), omega (arith, ints, clamps, y), omega (arith, ints, clamps, z))
greatest_each p (q ∷ qs) (suc i) d lt = greatest_each (upper p q) qs i d (omega (arith, lt))

-- Each point is in the box of all.
pub box_has : (p : Place) (ps : List Place) (i : ℕ) (d : Place) → i < length (p ∷ ps)
    → IsInBox (box_of_points p ps) (get_or (p ∷ ps) i d)
box_has p ps zero d lt = grind (arith, common_steps, greatest_first p ps, least_first p ps)
box_has p ps (suc i) d lt = grind (arith, common_steps, greatest_each p ps i d, least_each p ps i d)

-- The place with these coordinates.
abbrev pub place : ℤ → ℤ → ℤ → Place
place x y z = record { x = x; y = y; z = z }

-- A box with an extent scales a point by axes.
pub scaled_at : (size e : ℕ) (b : PointBox) (p : Place) (x y z : ℤ) → e ≡ extent b → 0 < e
    → x ≡ along size e (off_middle p.x b.low.x b.high.x)
    → y ≡ along size e (off_middle p.y b.low.y b.high.y)
    → z ≡ along size e (off_middle p.z b.low.z b.high.z) → place x y z ≡ scaled size b p
unfolding scaled
scaled_at size e b p x y z is lt ex ey ez = grind (arith, common_steps, ne_eqb)
