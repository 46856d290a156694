-- The plane on which a polygon is cut shows it largest.
use Rattle.std.proofs.Common.{◌≡◌, ℕ, ◌+◌, ◌<◌, ◌≤◌, Bool, true, false, inl, inr, List, [], ◌∷◌}
use Rattle.std.proofs.lemmas.Grind.{common_steps}
use Rattle.std.proofs.Common.{refl, sym, ap, ◌∙◌, subst, arith}
use Rattle.std.specs.Prelude.{ℤ, pos, ◌+ℤ◌, ◌≤ℤ◌, nat_le, ◌&&◌, ◌⊎◌, int_lt, unsigned_abs}
use Rattle.std.proofs.lemmas.Bool.{cases_Bool, cond-true, cond-false, and_parts, and_cases}
use Rattle.std.proofs.lemmas.Bool.{leb-true, leb-false}
use Rattle.std.proofs.lemmas.Bool.Decides.{Decides-int_eq}
use Rattle.std.specs.Ordering.{int_eq}
use Rattle.std.proofs.lemmas.Int.{ints}
use Rattle.pm_base.specs.Place.{Place}
use Rattle.pm_ears.specs.declared.plane.Axis.{Axis}
use Rattle.pm_ears.specs.declared.plane.Axis.TheVariants as axes
use Rattle.pm_ears.specs.declared.spots.Spot.{Spot}
use Rattle.pm_ears.specs.Areas.{cross_of, along, last_from, twice_area_within}
use Rattle.pm_ears.specs.Planes.{across, mirrored_if, spot_of, spots_on, newell, facing, largest_of}
use Rattle.pm_ears.specs.Planes.{first_seen, plane_by, plane_of}
use Rattle.pm_ears.specs.Laws.{IsShownLargest}

-- Where the corners stand on a plane, and in its mirror.
seen : Bool → Axis → ℕ → List Place → List Spot
seen b axis i places = spots_on (record { across = axis; mirrored = b }) i places

one_seen : Bool → Axis → ℕ → Place → Spot
one_seen b axis i p = spot_of (record { across = axis; mirrored = b }) i p

mirrored_cross : (p q : Spot)
    → cross_of (mirrored_if true p) (mirrored_if true q) +ℤ cross_of p q ≡ pos 0
unfolding cross_of
mirrored_cross p q = omega (arith, ints)

mirrored_pair : (axis : Axis) (i k : ℕ) (p q : Place)
    → cross_of (one_seen true axis i p) (one_seen true axis k q) +ℤ cross_of
    (one_seen false axis i p) (one_seen false axis k q) ≡ pos 0
unfolding one_seen spot_of
mirrored_pair axis i k p q = mirrored_cross (across axis i p) (across axis k q)

mirrored_along : (axis : Axis) (i : ℕ) (places : List Place)
    → along (seen true axis i places) +ℤ along (seen false axis i places) ≡ pos 0
unfolding seen one_seen
mirrored_along axis i [] = refl
mirrored_along axis i (p ∷ []) = refl
mirrored_along axis i (p ∷ q ∷ more) =
    let here = mirrored_pair axis i (i + 1) p q in
    let rest = mirrored_along axis (i + 1) (q ∷ more) in
    omega (arith, ints, here, rest)

mirrored_last : (axis : Axis) (i : ℕ) (p : Place) (more : List Place)
    → last_from (one_seen true axis i p) (seen true axis (i + 1) more)
    ≡ mirrored_if true (last_from (one_seen false axis i p) (seen false axis (i + 1) more))
unfolding seen one_seen spot_of
mirrored_last axis i p [] = refl
mirrored_last axis i p (q ∷ more) = mirrored_last axis (i + 1) q more

mirrored_within : (axis : Axis) (i : ℕ) (places : List Place)
    → twice_area_within (seen true axis i places) +ℤ twice_area_within (seen false axis i places)
    ≡ pos 0
unfolding seen one_seen spot_of
mirrored_within axis i [] = refl
mirrored_within axis i (p ∷ more) =
    let path = mirrored_along axis i (p ∷ more) in
    let last = last_from (one_seen false axis i p) (seen false axis (i + 1) more) in
    let closing = mirrored_cross last (across axis i p) in
    let same = ap (λ (s : Spot). cross_of s (one_seen true axis i p)) (mirrored_last axis i p
    more) in
    omega (arith, ints, path, closing, same)

-- An area that is seen upright is as great as the component of the normal.
record IsSeen (n area : ℤ) : Type 0 where
  upright : pos 0 ≤ℤ area
  size : unsigned_abs n ≡ unsigned_abs area

facing_seen : (axis : Axis) (places : List Place)
    → IsSeen (newell axis places) (twice_area_within
    (spots_on (facing axis (newell axis places)) 0 places))
unfolding seen
facing_seen axis places =
    elim (cases_Bool (int_lt (newell axis places) (pos 0))) [
      | inl e ↦
          let turned = mirrored_within axis 0 places in
          subst (λ b. IsSeen (newell axis places) (twice_area_within (seen b axis 0 places)))
          (sym e)
          (record {
            upright =
                omega (arith, ints, turned, e);
            size = omega (arith, ints, turned, e);
          })
      | inr e ↦
          subst (λ b. IsSeen (newell axis places) (twice_area_within (seen b axis 0 places)))
          (sym e)
          (record { upright = omega (arith, ints, e); size = refl })
    ]

shown_by : (axis : Axis) (places : List Place) → plane_of places ≡ facing axis (newell axis places)
    → ((other : Axis) → unsigned_abs (newell other places) ≤ unsigned_abs (newell axis places))
    → IsShownLargest places
shown_by axis places is most = grind (arith, common_steps, facing_seen axis places)

most_of : (places : List Place) (n : ℕ) → unsigned_abs (newell axes.X places) ≤ n
    → unsigned_abs (newell axes.Y places) ≤ n → unsigned_abs (newell axes.Z places) ≤ n
    → (other : Axis) → unsigned_abs (newell other places) ≤ n
most_of places n x y z axes.X = x
most_of places n x y z axes.Y = y
most_of places n x y z axes.Z = z

-- One of the three is as great as each.
lower : (x y z : ℕ) → (nat_le y x && nat_le z x) ≡ false → (x < y) ⊎ (x < z)
lower x y z e = grind (arith, common_steps, and_cases, leb-false)

Picks : ℤ → ℤ → ℤ → Axis → ℤ → Type 0
Picks x y z axis n =
    (largest_of x y z ≡ facing axis n) × (unsigned_abs x ≤ unsigned_abs n)
    × (unsigned_abs y ≤ unsigned_abs n) × (unsigned_abs z ≤ unsigned_abs n)

picks : (x y z : ℤ) → Picks x y z axes.X x ⊎ (Picks x y z axes.Y y ⊎ Picks x y z axes.Z z)
unfolding Picks largest_of
picks x y z =
    grind (arith, common_steps, and_parts, cond-false, cond-true, leb-false, leb-true, lower)

-- Whether a polygon has no area along any axis.
abbrev pub are_zero : ℤ → ℤ → ℤ → Bool
are_zero x y z = int_eq x (pos 0) && int_eq y (pos 0) && int_eq z (pos 0)

zero_parts : (x y z : ℤ) → are_zero x y z ≡ true → (x ≡ pos 0) × (y ≡ pos 0) × (z ≡ pos 0)
zero_parts x y z e = grind (arith, common_steps, and_parts, Decides-int_eq)

all_zero : (places : List Place) → newell axes.X places ≡ pos 0 → newell axes.Y places ≡ pos 0
    → newell axes.Z places ≡ pos 0 → (axis : Axis) → newell axis places ≡ pos 0
all_zero places x y z axes.X = x
all_zero places x y z axes.Y = y
all_zero places x y z axes.Z = z

abbrev pub has_none : List Place → Bool
has_none places = are_zero (newell axes.X places) (newell axes.Y places) (newell axes.Z places)

none_along : (places : List Place) → has_none places ≡ true
    → (axis : Axis) → newell axis places ≡ pos 0
none_along places e =
    let zero = zero_parts (newell axes.X places) (newell axes.Y places) (newell axes.Z places) e in
    all_zero places zero.0 zero.1 zero.2

pub plane_without : (places : List Place) → has_none places ≡ true
    → plane_of places ≡ record { across = first_seen places; mirrored = false }
unfolding plane_by
plane_without places e = cond-true _ _ _ e

plane_with : (places : List Place) → has_none places ≡ false
    → plane_of places
    ≡ largest_of (newell axes.X places) (newell axes.Y places) (newell axes.Z places)
unfolding plane_by
plane_with places e = cond-false _ _ _ e

shown_without : (places : List Place) → has_none places ≡ true → IsShownLargest places
shown_without places e =
    let zero = none_along places e in
    let axis = first_seen places in
    shown_by axis places
    (plane_without places e ∙ ap (facing axis) (sym (zero axis)))
    (λ other. let here = zero axis in let there = zero other in omega (arith, ints, here, there))

shown_with : (places : List Place) → has_none places ≡ false → IsShownLargest places
unfolding Picks
shown_with places e =
    let plane = plane_with places e in
    elim (picks (newell axes.X places) (newell axes.Y places) (newell axes.Z places)) [
      | inl h ↦ shown_by axes.X places (plane ∙ h.0)
          (most_of places (unsigned_abs (newell axes.X places)) h.1 h.2 h.3)
      | inr rest ↦
          elim rest [
            | inl h ↦ shown_by axes.Y places (plane ∙ h.0)
                (most_of places (unsigned_abs (newell axes.Y places)) h.1 h.2 h.3)
            | inr h ↦ shown_by axes.Z places (plane ∙ h.0)
                (most_of places (unsigned_abs (newell axes.Z places)) h.1 h.2 h.3)
          ]
    ]

pub shown_largest : (places : List Place) → IsShownLargest places
shown_largest places =
    elim (cases_Bool (has_none places)) [
      | inl e ↦ shown_without places e
      | inr e ↦ shown_with places e
    ]

-- What is shown with an area of 0 has none along any axis.
pub none_shown : (places : List Place) → twice_area_within (spots_on (plane_of places) 0 places)
    ≡ pos 0 → has_none places ≡ true
none_shown places e =
    let most = (shown_largest places).largest in
    let at : (axis : Axis) → newell axis places ≡ pos 0 =
    λ axis. (let m = most axis in omega (arith, ints, m, e)) in
    let x = (Decides-int_eq (newell axes.X places) (pos 0)).1 (at axes.X) in
    let y = (Decides-int_eq (newell axes.Y places) (pos 0)).1 (at axes.Y) in
    let z = (Decides-int_eq (newell axes.Z places) (pos 0)).1 (at axes.Z) in
    grind (arith, common_steps, x, y, z)
