-- What a binary STL file gives is within the limits, and each of its points is at most 10^32 units
-- away from 0 on each axis.
use Rattle.std.proofs.Common.{◌≡◌, ℕ, suc, zero, ◌+◌, ◌*◌, ◌<◌, ◌≤◌, ◌==◌, Bool, true, false}
use Rattle.std.proofs.Common.{nat_lt, List, [], ◌∷◌, ◌++◌, length, refl, subst}
use Rattle.std.proofs.Common.{arith, Result, Ok, Err, length-append, if◌then◌else◌}
use Rattle.std.specs.Prelude.{ℤ, ◌^◌, unsigned_abs}
use Rattle.std.specs.List.{All}
use Rattle.std.proofs.lemmas.Bool.{ltb-true, ltb-false, eqb-false}
use Rattle.std.proofs.lemmas.List.Elements.{All-append, All-cons, All-nil, All-push}
use Rattle.pm_base.specs.declared.mesh.Corners.{Corners}
use Rattle.pm_base.specs.Place.{Place}
use Rattle.obj_prepare.specs.Exact.{AreExact}
use Rattle.obj_prepare.specs.Named.{AreVerticesBelow}
use Rattle.float_read.specs.declared.fault.FloatFault.{FloatFault}
use Rattle.float_read.specs.Floats.{binary32}
use Rattle.stl_read.specs.declared.fault.Refused.{Refused}
use Rattle.stl_read.specs.declared.fault.StlFault.TheVariants as faults
use Rattle.stl_read.specs.Refusals.{◌>>=◌}
use Rattle.stl_read.specs.Vertices.{Triangles, Corner, Facet, number_of, with_point, corner_of}
use Rattle.stl_read.specs.Vertices.{no_triangles, with_facet}
use Rattle.stl_read.specs.Binary.{placed, word_at, coordinate_at, facet_count, point_at, corner_at}
use Rattle.stl_read.specs.Binary.{facet_at, has_attributes, with_facets, count_of}
use Rattle.stl_read.specs.Binary.{binary_meaning}
use Rattle.stl_read.proofs.VertexLaws.{number_within}
use Rattle.mesh_scan.specs.Meaning.{stl_scanned}
use Rattle.mesh_scan.proofs.ExactLaws.{IsSound, float_exact}

-- What comes next was answered, so it came.

pub bind_ok : {A B : Type 0} (r : Result A Refused) (next : A → Result B Refused) (b : B)
    → (r >>= next) ≡ Ok b → (a : A) × (r ≡ Ok a) × (next a ≡ Ok b)
bind_ok (Ok a) next b is = (a, refl, is)
bind_ok (Err e) next b is = absurd (cc)

pub if_ok : {A : Type 0} (test : Bool) (r : Result A Refused) (e : Refused) (a : A)
    → (if test then r else Err e) ≡ Ok a → r ≡ Ok a
if_ok true r e a is = is
if_ok false r e a is = absurd (cc)

pub else_ok : {A : Type 0} (test : Bool) (r : Result A Refused) (e : Refused) (a : A)
    → (if test then Err e else r) ≡ Ok a → (test ≡ false) × (r ≡ Ok a)
else_ok true r e a is = absurd (cc)
else_ok false r e a is = (refl, is)

pub below_wider : (n k : ℕ) (f : Corners) → n ≤ k → AreVerticesBelow n f → AreVerticesBelow k f
below_wider n k f le at =
    record { a = omega (arith, at.a); b = omega (arith, at.b); c = omega (arith, at.c) }

-- Points no more than there may be, after fewer or as many, and near enough.
pub record HasGrown (old new : List Place) : Type 0 where
  pub more : length old ≤ length new
  pub few : length new ≤ 1048576
  pub exact : All AreExact new

-- A corner.

point_case : (points : List Place) (p : Place) (there : Bool)
    → nat_lt (number_of points p) (length points) ≡ there → length points ≤ 1048576
    → All AreExact points → AreExact p → (number_of points p ≡ 1048576 → ⊥)
    → (number_of points p < length (with_point points p)) × HasGrown points (with_point points p)
point_case points p true is few all exact not =
    let lt : number_of points p < length points = ltb-true _ _ is in
    rw is (lt, record { more = omega arith; few = few; exact = all })
point_case points p false is few all exact not =
    let le : length points ≤ number_of points p = ltb-false _ _ is in
    let most : number_of points p ≤ length points = number_within points p in
    let long : length (points ++ p ∷ []) ≡ length points + 1 = length-append points (p ∷ []) in
    let less : length points < 1048576 = omega (arith, not) in
    rw is (
      omega arith,
      record {
        more = omega arith;
        few = omega arith;
        exact = All-push AreExact points p all exact;
      },
    )

pub corner_fits : (place : ℕ) (points : List Place) (p : Place) (c : Corner)
    → length points ≤ 1048576 → All AreExact points → AreExact p
    → corner_of place points p ≡ Ok c → (c.vertex < length c.points) × HasGrown points c.points
unfolding corner_of
corner_fits place points p c few all exact is =
    let (not, made) = else_ok (number_of points p == 1048576) _ _ c is in
    let at = point_case points p (nat_lt (number_of points p) (length points)) refl few all exact
    (eqb-false _ _ not) in
    let whole : Corner = record {
      vertex = number_of points p;
      points = with_point points p;
    } in
    let e : whole ≡ c = cc in
    subst (λ (x : Corner). (x.vertex < length x.points) × HasGrown points x.points) e at

-- Points and triangles of them.
pub record IsFit (t : Triangles) : Type 0 where
  pub points : length t.points ≤ 1048576
  pub exact : All AreExact t.points
  pub corners : All (AreVerticesBelow (length t.points)) t.faces

pub with_face : (t : Triangles) (points : List Place) (f : Corners) (attributes : ℕ) → IsFit t
    → HasGrown t.points points → AreVerticesBelow (length points) f
    → IsFit (record { points = points; faces = t.faces ++ f ∷ []; attributes = attributes })
with_face t points f attributes fit grown below = record {
  points = grown.few;
  exact = grown.exact;
  corners = All-append (AreVerticesBelow (length points)) t.faces (f ∷ [])
      (λ i d l. below_wider (length t.points) (length points) _ grown.more (fit.corners i d l))
      (All-cons (AreVerticesBelow (length points)) f [] below
      (All-nil (AreVerticesBelow (length points))));
}

pub fit_sound : (t : Triangles) → IsFit t → length t.faces ≤ 1048576 → IsSound (stl_scanned t)
fit_sound t fit few = record {
  exact = fit.exact;
  within = record {
    points = fit.points;
    inexact = omega arith;
    faces = few;
    corners = fit.corners;
    polygons = All-nil _;
    polygons_few = omega arith;
  };
}

-- A binary file.

placed_ok : (at : ℕ) (r : Result ℤ FloatFault) (x : ℤ) → placed at r ≡ Ok x → r ≡ Ok x
placed_ok at (Ok y) x is = let same : y ≡ x = cc in cc
placed_ok at (Err fault) x is = absurd (cc)

coordinate_exact : (bytes : List ℕ) (at : ℕ) (x : ℤ) → coordinate_at bytes at ≡ Ok x
    → unsigned_abs x ≤ 10 ^ 32
unfolding coordinate_at
coordinate_exact bytes at x is =
    float_exact binary32 (word_at bytes at) x (placed_ok at _ x is)

point_exact : (bytes : List ℕ) (at : ℕ) (p : Place) → point_at bytes at ≡ Ok p → AreExact p
unfolding point_at
point_exact bytes at p is =
    let (x, first, more) = bind_ok (coordinate_at bytes at) _ p is in
    let (y, second, last) = bind_ok (coordinate_at bytes (at + 4)) _ p more in
    let (z, third, made) = bind_ok (coordinate_at bytes (at + 8)) _ p last in
    let q : Place = record { x = x; y = y; z = z } in
    let e : q ≡ p = cc in
    subst AreExact e (
      coordinate_exact bytes at x first,
      coordinate_exact bytes (at + 4) y second,
      coordinate_exact bytes (at + 8) z third,
    )

corner_at_fits : (bytes : List ℕ) (at : ℕ) (points : List Place) (c : Corner)
    → length points ≤ 1048576 → All AreExact points → corner_at bytes at points ≡ Ok c
    → (c.vertex < length c.points) × HasGrown points c.points
unfolding corner_at
corner_at_fits bytes at points c few all is =
    let (p, read, made) = bind_ok (point_at bytes at) (corner_of at points) c is in
    corner_fits at points p c few all (point_exact bytes at p read) made

facet_fits : (bytes : List ℕ) (at : ℕ) (points : List Place) (f : Facet)
    → length points ≤ 1048576 → All AreExact points → facet_at bytes at points ≡ Ok f
    → AreVerticesBelow (length f.points) f.corners × HasGrown points f.points
unfolding facet_at
facet_fits bytes at points f few all is =
    let (a, first, after_first) = bind_ok (corner_at bytes (at + 12) points) _ f is in
    let (a_in, a_grown) = corner_at_fits bytes (at + 12) points a few all first in
    let (b, second, after_second) = bind_ok (corner_at bytes (at + 24) a.points) _ f after_first in
    let (b_in, b_grown) = corner_at_fits bytes (at + 24) a.points b a_grown.few a_grown.exact
    second in
    let (c, third, last) = bind_ok (corner_at bytes (at + 36) b.points) _ f after_second in
    let (c_in, c_grown) = corner_at_fits bytes (at + 36) b.points c b_grown.few b_grown.exact
    third in
    let made : Facet = record {
      corners = record { a = a.vertex; b = b.vertex; c = c.vertex };
      points = c.points;
    } in
    let e : made ≡ f = cc in
    subst (λ (x : Facet). AreVerticesBelow (length x.points) x.corners × HasGrown points x.points)
    e (
      record {
        a = omega (arith, a_in, b_grown.more, c_grown.more);
        b = omega (arith, b_in, c_grown.more);
        c = c_in;
      },
      record {
        more = omega (arith, a_grown.more, b_grown.more, c_grown.more);
        few = c_grown.few;
        exact = c_grown.exact;
      },
    )

facets_fit : (bytes : List ℕ) (n : ℕ) (t : Triangles) (at : ℕ) (u : Triangles) → IsFit t
    → with_facets bytes t at n ≡ Ok u → IsFit u × (length u.faces ≡ length t.faces + n)
facets_fit bytes zero t at u fit is =
    let e : t ≡ u = cc in
    subst (λ (x : Triangles). IsFit x × (length x.faces ≡ length t.faces + 0)) e
    (fit, omega arith)
facets_fit bytes (suc n) t at u fit is =
    let (f, read, later) = bind_ok (facet_at bytes at t.points) _ u is in
    let (below, grown) = facet_fits bytes at t.points f fit.points fit.exact read in
    let after : Triangles = with_facet t f (has_attributes bytes at) in
    let (u_fit, long) = facets_fit bytes n after (at + 50) u
    (with_face t f.points f.corners after.attributes fit grown below) later in
    (u_fit, omega (arith, long, length-append t.faces (f.corners ∷ [])))

count_case : (a b c d : Bool) (e f g h : Refused) (m n : ℕ)
    → (if a then Err e else if b then Err f else if c then Err g else if d then Err h else Ok m)
    ≡ Ok n → (d ≡ false) × (m ≡ n)
count_case true b c d e f g h m n is = absurd (cc)
count_case false true c d e f g h m n is = absurd (cc)
count_case false false true d e f g h m n is = absurd (cc)
count_case false false false true e f g h m n is = absurd (cc)
count_case false false false false e f g h m n is = let same : m ≡ n = cc in (refl, same)

count_few : (bytes : List ℕ) (n : ℕ) → count_of bytes ≡ Ok n → n ≤ 1048576
unfolding count_of
count_few bytes n is =
    let cut : Refused = record { fault = faults.CutOff; place = length bytes } in
    let more : Refused = record { fault = faults.MoreBytes; place = 84 + 50 * facet_count bytes } in
    let many : Refused = record { fault = faults.TooManyFaces; place = 80 } in
    let (few, e) = count_case (nat_lt (length bytes) 84)
    (nat_lt (length bytes) (84 + 50 * facet_count bytes))
    (nat_lt (84 + 50 * facet_count bytes) (length bytes))
    (nat_lt 1048576 (facet_count bytes)) cut cut more many
    (facet_count bytes) n is in
    omega (arith, e, ltb-false 1048576 (facet_count bytes) few)

pub nothing_fits : IsFit no_triangles
nothing_fits = record { points = omega arith; exact = All-nil AreExact; corners = All-nil _ }

pub binary_sound : (bytes : List ℕ) (t : Triangles) → binary_meaning bytes ≡ Ok t
    → IsSound (stl_scanned t)
unfolding binary_meaning
binary_sound bytes t is =
    let (n, counted, read) = bind_ok (count_of bytes) (with_facets bytes no_triangles 84) t is in
    let (fit, long) = facets_fit bytes n no_triangles 84 t nothing_fits read in
    fit_sound t fit (omega (arith, long, count_few bytes n counted))
