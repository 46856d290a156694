-- Cuts of a polygon: their areas, their number, and their order.
use Rattle.std.proofs.Common.{◌≡◌, ℕ, zero, suc, ◌+◌, ◌<◌, ◌≤◌, Bool, true, false, List, [], ◌∷◌}
use Rattle.std.proofs.lemmas.Grind.{common_steps}
use Rattle.std.proofs.Common.{length, refl, ap, arith}
use Rattle.std.specs.Prelude.{pos, ◌+ℤ◌}
use Rattle.std.specs.List.{All}
use Rattle.std.proofs.lemmas.Int.{ints}
use Rattle.std.proofs.lemmas.List.Elements.{All-nil, All-cons}
use Rattle.std.proofs.Math.IntN.{*ℤ_comm}
use Rattle.pm_base.specs.Place.{Place}
use Rattle.pm_ears.specs.declared.plane.Axis.{Axis}
use Rattle.pm_ears.specs.declared.plane.Axis.TheVariants as axes
use Rattle.pm_ears.specs.declared.plane.Plane.{Plane}
use Rattle.pm_ears.specs.declared.spots.Spot.{Spot}
use Rattle.pm_ears.specs.declared.spots.Triangle.{Triangle}
use Rattle.pm_ears.specs.Areas.{cross_of, twice_area_of, along, last_from, twice_area_within}
use Rattle.pm_ears.specs.Areas.{triangle_at}
use Rattle.pm_ears.specs.Planes.{across, mirrored_if, spot_of, spots_on}
use Rattle.pm_ears.specs.Ears.{without}
use Rattle.pm_ears.specs.Fans.{fan}
use Rattle.pm_ears.specs.Laws.{TakesOff, here, later, IsCut, done, next, total, IsInOrder}

pub cross_back : (p q : Spot) → cross_of q p +ℤ cross_of p q ≡ pos 0
unfolding cross_of
cross_back p q = omega (arith, ints, *ℤ_comm p.x q.y, *ℤ_comm p.y q.x)

-- Areas.
took_after : (p : Spot) {left rest : List Spot} {t : Triangle} → TakesOff left t rest
    → along (p ∷ left) ≡ along (p ∷ rest) +ℤ twice_area_of t
took_after p (here {a} {b} {c} {more}) = let back = cross_back a c in omega (arith, ints, back)
took_after p (later {p = q} w) = let more = took_after q w in omega (arith, ints, more)

took_last : (p : Spot) {left rest : List Spot} {t : Triangle} → TakesOff left t rest
    → last_from p left ≡ last_from p rest
took_last p (here {a} {b} {c} {more}) = refl
took_last p (later {p = q} w) = took_last q w

took_area : {left rest : List Spot} {t : Triangle} → TakesOff left t rest
    → twice_area_within left ≡ twice_area_within rest +ℤ twice_area_of t
took_area (here {a} {b} {c} {more}) = let back = cross_back a c in omega (arith, ints, back)
took_area (later {p} {left} {rest} w) =
    let more = took_after p w in
    let last : cross_of (last_from p left) p ≡ cross_of (last_from p rest) p =
    ap (λ q. cross_of q p) (took_last p w) in
    omega (arith, ints, more, last)

pub areas_add_up : (spots : List Spot) (ts : List Triangle) → IsCut spots ts
    → total ts ≡ twice_area_within spots
areas_add_up spots ts (done {p} {q}) = let back = cross_back p q in omega (arith, ints, back)
areas_add_up spots ts (next {left} {rest} {t} {ts = us} w more) =
    let one = took_area w in
    let others = areas_add_up rest us more in
    omega (arith, ints, one, others)

-- Numbers.
took_one : {left rest : List Spot} {t : Triangle} → TakesOff left t rest
    → length left ≡ length rest + 1
took_one (here {a} {b} {c} {more}) = omega arith
took_one (later w) = let more = took_one w in omega (arith, more)

pub two_fewer : (spots : List Spot) (ts : List Triangle) → IsCut spots ts
    → length ts + 2 ≡ length spots
two_fewer spots ts (done {p} {q}) = refl
two_fewer spots ts (next {left} {rest} {t} {ts = us} w more) =
    grind (arith, common_steps, took_one, two_fewer rest us more)

-- Fans.
pub fans_are_cuts : (a b : Spot) (more : List Spot) → IsCut (a ∷ b ∷ more) (fan (a ∷ b ∷ more))
fans_are_cuts a b [] = done
fans_are_cuts a b (c ∷ more) = next here (fans_are_cuts a c more)

-- What comes off by number.
pub takes_off : (left : List Spot) (i : ℕ) → i + 2 < length left
    → TakesOff left (triangle_at left i) (without left i)
takes_off [] i l = absurd (omega (arith, l))
takes_off (a ∷ []) i l = absurd (omega (arith, l))
takes_off (a ∷ b ∷ []) i l = absurd (omega (arith, l))
takes_off (a ∷ b ∷ c ∷ more) zero l = here
takes_off (a ∷ b ∷ c ∷ more) (suc i) l =
    let one : suc i + 1 ≡ suc (i + 1) = omega arith in
    let two : suc i + 2 ≡ suc (i + 2) = omega arith in
    rw (one, two) (later (takes_off (b ∷ c ∷ more) i (omega (arith, l))))

-- Corners in a polygon's order: their positions ascend, from `low` on and below n.
pub AreBetween : ℕ → ℕ → List Spot → Type 0
AreBetween low n [] = Unit {0}
AreBetween low n (p ∷ more) =
    (low ≤ p.position) × (p.position < n) × AreBetween (p.position + 1) n more

lower : (low high n : ℕ) (spots : List Spot) → low ≤ high → AreBetween high n spots
    → AreBetween low n spots
unfolding AreBetween
lower low high n [] l h = h
lower low high n (p ∷ more) l h = let from = h.0 in (omega (arith, l, from), h.1, h.2)

took_order : (low n : ℕ) {left rest : List Spot} {t : Triangle} → TakesOff left t rest
    → AreBetween low n left → IsInOrder n t × AreBetween low n rest
unfolding AreBetween
took_order low n (here {a} {b} {c} {more}) h = grind (arith, common_steps, AreBetween)
took_order low n (later {p} {rest} w) h =
    grind (arith, common_steps, AreBetween, took_order (p.position + 1) n w h.2)

pub cut_order : (low n : ℕ) (spots : List Spot) (ts : List Triangle) → IsCut spots ts
    → AreBetween low n spots → All (IsInOrder n) ts
cut_order low n spots ts (done {p} {q}) h = All-nil (IsInOrder n)
cut_order low n spots ts (next {left} {rest} {t} {ts = us} w more) h =
    let (first, others) = took_order low n w h in
    All-cons (IsInOrder n) t us first (cut_order low n rest us more others)

-- The corners of a polygon are so.
position_kept : (b : Bool) (axis : Axis) (i : ℕ) (p : Place)
    → (mirrored_if b (across axis i p)).position ≡ i
position_kept true axes.X i p = refl
position_kept true axes.Y i p = refl
position_kept true axes.Z i p = refl
position_kept false axes.X i p = refl
position_kept false axes.Y i p = refl
position_kept false axes.Z i p = refl

position_of : (plane : Plane) (i : ℕ) (p : Place) → (spot_of plane i p).position ≡ i
unfolding spot_of
position_of plane i p = position_kept plane.mirrored plane.across i p

pub spots_between : (plane : Plane) (i n : ℕ) (places : List Place) → i + length places ≤ n
    → AreBetween i n (spots_on plane i places)
unfolding AreBetween
spots_between plane i n [] l = _
spots_between plane i n (p ∷ more) l =
    grind (arith, common_steps, AreBetween, position_of, spots_between plane (i + 1) n more)
