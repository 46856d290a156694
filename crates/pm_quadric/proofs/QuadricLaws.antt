-- What keeps a quadric: it stands for the planes of some faces, and its numbers are small.
use Rattle.std.proofs.Common.{◌≡◌, ◌+◌, ◌^◌, ◌≤◌, ◌<◌, List, [], ◌∷◌, ◌++◌, length, length-append}
use Rattle.std.proofs.lemmas.Grind.{common_steps}
use Rattle.std.proofs.Common.{refl, sym, ap, ◌∙◌, subst, arith}
use Rattle.std.specs.Prelude.{unsigned_abs}
use Rattle.pm_base.specs.Place.{Place, IsPlace}
use Rattle.pm_quadric.specs.declared.quadric.TheConstants.{MOST_PLANES}
use Rattle.pm_quadric.specs.Planes.{Plane, plane_of, AreFacePlanes, squares_of}
use Rattle.pm_quadric.specs.Sums.{Sums, plus_sums, sums_of}
use Rattle.pm_quadric.specs.Expanded.{polynomial}
use Rattle.pm_quadric.specs.Quadrics.{StandsForFaces, IsSmall, IsQuadric}
use Rattle.pm_quadric.proofs.Expansion.{polynomial-sums, sums-append}
use Rattle.pm_quadric.proofs.PlaneBounds.{squares_below}
use Rattle.pm_quadric.proofs.SumsBounds.{sums_small}

faces-append : (fs gs : List Plane) → AreFacePlanes fs → AreFacePlanes gs → AreFacePlanes (fs ++ gs)
faces-append [] gs p q = q
faces-append (f ∷ fs) gs p q = (p.0, faces-append fs gs p.1 q)

is_quadric : (s : Sums) → StandsForFaces s → IsQuadric s
is_quadric s h =
    record { small = subst IsSmall (sym h.sums) (sums_small h.planes h.faces h.few); stands = h }

-- The count is the length of the list.
pub count-sums : (fs : List Plane) → (sums_of fs).count ≡ length fs
count-sums [] = refl
count-sums (f ∷ fs) = omega (arith, count-sums fs)

pub count_is : (s : Sums) (fs : List Plane) → s ≡ sums_of fs → s.count ≡ length fs
count_is s fs e = ap (λ (t : Sums). t.count) e ∙ count-sums fs

-- The quadric of one face, and of two quadrics together.
pub quadric_face : (a b c : Place) → IsPlace a → IsPlace b → IsPlace c
    → IsQuadric (sums_of (plane_of a b c ∷ []))
quadric_face a b c p q r =
    is_quadric (sums_of (plane_of a b c ∷ [])) (record {
      planes = plane_of a b c ∷ [];
      faces = (
        record {
          first = a;
          second = b;
          third = c;
          first_in_range = p;
          second_in_range = q;
          third_in_range = r;
          plane = refl;
        },
        tt,
      );
      few = omega arith;
      sums = refl;
    })

pub sums_joined : (s t : Sums) (fs gs : List Plane) → s ≡ sums_of fs → t ≡ sums_of gs
    → plus_sums s t ≡ sums_of (fs ++ gs)
sums_joined s t fs gs p q =
    ap (λ (v : Sums). plus_sums v t) p
    ∙ (ap (λ (v : Sums). plus_sums (sums_of fs) v) q ∙ sym (sums-append fs gs))

pub quadric_plus : (s t : Sums) → IsQuadric s → IsQuadric t → s.count + t.count ≤ MOST_PLANES
    → IsQuadric (plus_sums s t)
quadric_plus s t h k few =
    grind (
      arith,
      common_steps,
      count_is s h.stands.planes h.stands.sums,
      count_is t k.stands.planes k.stands.sums,
      faces-append h.stands.planes k.stands.planes h.stands.faces k.stands.faces,
      is_quadric (plus_sums s t),
      length-append h.stands.planes k.stands.planes,
      sums_joined s t h.stands.planes k.stands.planes h.stands.sums k.stands.sums,
    )

-- The polynomial at a place, by the list and by the type.
pub polynomial_is : (s : Sums) (fs : List Plane) (p : Place) → s ≡ sums_of fs
    → unsigned_abs (polynomial s p) ≡ squares_of fs p
polynomial_is s fs p e =
    ap unsigned_abs (ap (λ (t : Sums). polynomial t p) e ∙ polynomial-sums fs p)

pub polynomial_below : (s : Sums) (p : Place) → IsQuadric s → IsPlace p
    → unsigned_abs (polynomial s p) < 2 ^ 124
polynomial_below s p h k =
    let e = polynomial_is s h.stands.planes p h.stands.sums in
    omega (arith, e, squares_below h.stands.planes p h.stands.faces h.stands.few k)
