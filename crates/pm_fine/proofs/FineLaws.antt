-- What keeps a fine quadric: it stands for some fine planes, and its numbers and values are small.
use Rattle.std.proofs.Common.{◌+◌, ◌-◌, ◌*◌, ◌^◌, ◌≤◌, ◌<◌, List, [], ◌∷◌, ◌++◌, length}
use Rattle.std.proofs.lemmas.Grind.{common_steps}
use Rattle.std.proofs.Common.{length-append, refl, sym, subst, arith}
use Rattle.std.specs.Prelude.{unsigned_abs}
use Rattle.std.proofs.lemmas.Nat.{mul-le}
use Rattle.pm_base.specs.Place.{Place, IsPlace}
use Rattle.pm_base.proofs.Squares.{abs_plus}
use Rattle.pm_base.proofs.Range.{abs_product}
use Rattle.pm_quadric.specs.Planes.{Plane, plane_value, squared_value, squares_of}
use Rattle.pm_quadric.specs.Sums.{Sums, plus_sums, sums_of}
use Rattle.pm_quadric.specs.Expanded.{polynomial}
use Rattle.pm_quadric.proofs.QuadricLaws.{count_is, sums_joined, polynomial_is}
use Rattle.pm_fine.specs.declared.fine_quadric.TheConstants.{MOST_FINE_PLANES}
use Rattle.pm_fine.specs.FinePlanes.{IsFinePlane, AreFinePlanes}
use Rattle.pm_fine.specs.FineSums.{StandsForFine, IsFineSmall, IsFineQuadric}
use Rattle.pm_fine.proofs.SumsBounds.{sums_small}

-- A plane's value is at most twice the greatest last number, and its square below 2 ^ 90.
value_small : (f : Plane) (p : Place) → IsFinePlane f → IsPlace p
    → unsigned_abs (plane_value f p) ≤ 26387473760256
value_small f p s h = grind (arith, common_steps, abs_plus, abs_product)

pub square_small : (f : Plane) (p : Place) → IsFinePlane f → IsPlace p
    → squared_value f p ≤ 2 ^ 90 - 1
square_small f p s k =
    let v = value_small f p s k in
    omega (
      arith,
      mul-le (unsigned_abs (plane_value f p)) (unsigned_abs (plane_value f p))
          26387473760256 26387473760256 v v,
    )

pub squares_small : (fs : List Plane) (p : Place) → AreFinePlanes fs → IsPlace p
    → squares_of fs p ≤ length fs * (2 ^ 90 - 1)
squares_small [] p hs k = omega arith
squares_small (f ∷ fs) p hs k = omega (arith, square_small f p hs.0 k, squares_small fs p hs.1 k)

-- What the planes of a fine quadric can sum to.
pub squares_below : (fs : List Plane) (p : Place) → AreFinePlanes fs → length fs ≤ MOST_FINE_PLANES
    → IsPlace p → squares_of fs p < 2 ^ 115
squares_below fs p hs few k = omega (arith, squares_small fs p hs k, few)

fine-append : (fs gs : List Plane) → AreFinePlanes fs → AreFinePlanes gs → AreFinePlanes (fs ++ gs)
fine-append [] gs p q = q
fine-append (f ∷ fs) gs p q = (p.0, fine-append fs gs p.1 q)

is_fine : (s : Sums) → StandsForFine s → IsFineQuadric s
is_fine s h =
    record { small = subst IsFineSmall (sym h.sums) (sums_small h.planes h.fine h.few); stands = h }

-- The quadric of nothing, of one plane, and of two quadrics together.
pub fine_zero : IsFineQuadric (sums_of [])
fine_zero = is_fine (sums_of []) (record { planes = []; fine = tt; few = omega arith; sums = refl })

pub fine_one : (f : Plane) → IsFinePlane f → IsFineQuadric (sums_of (f ∷ []))
fine_one f h =
    is_fine (sums_of (f ∷ [])) (record {
      planes = f ∷ [];
      fine = (h, tt);
      few = omega arith;
      sums = refl;
    })

pub fine_plus : (s t : Sums) → IsFineQuadric s → IsFineQuadric t
    → s.count + t.count ≤ MOST_FINE_PLANES → IsFineQuadric (plus_sums s t)
fine_plus s t h k few =
    grind (
      arith,
      common_steps,
      count_is s h.stands.planes h.stands.sums,
      count_is t k.stands.planes k.stands.sums,
      fine-append h.stands.planes k.stands.planes h.stands.fine k.stands.fine,
      is_fine (plus_sums s t),
      length-append h.stands.planes k.stands.planes,
      sums_joined s t h.stands.planes k.stands.planes h.stands.sums k.stands.sums,
    )

pub polynomial_below : (s : Sums) (p : Place) → IsFineQuadric s → IsPlace p
    → unsigned_abs (polynomial s p) < 2 ^ 115
polynomial_below s p h k =
    let e = polynomial_is s h.stands.planes p h.stands.sums in
    omega (arith, e, squares_below h.stands.planes p h.stands.fine h.stands.few k)
