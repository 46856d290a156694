-- What a PLY file gives is within the limits, and each of its points is at most 10^32 units away
-- from 0 on each axis.
use Rattle.std.proofs.Common.{◌≡◌, ℕ, suc, zero, ◌+◌, ◌-◌, ◌<◌, ◌≤◌, ◌==◌, nat_lt, true}
use Rattle.std.proofs.Common.{List, [], ◌∷◌, ◌++◌, length, None, refl, subst, arith}
use Rattle.std.proofs.Common.{Result, Ok, Err, inl, inr, length-append}
use Rattle.std.specs.List.{All}
use Rattle.std.proofs.lemmas.Bool.{cases_Bool, ltb-false}
use Rattle.std.proofs.lemmas.List.Elements.{All-nil, All-push}
use Rattle.obj_prepare.specs.Exact.{AreExact}
use Rattle.obj_scan.specs.Judged.{Scanned, polygons_after}
use Rattle.obj_scan.specs.Polygons.{triangles}
use Rattle.obj_scan.specs.Meaning.{IsWithinLimits}
use Rattle.obj_scan.specs.Passing.{none_passed}
use Rattle.obj_scan.proofs.ScanLaws.{vertex_within, polygon_kept}
use Rattle.ply_read.specs.declared.declared.Encoding.{Encoding}
use Rattle.ply_read.specs.declared.declared.Kind.{Kind}
use Rattle.ply_read.specs.declared.declared.Kind.TheVariants as kinds
use Rattle.ply_read.specs.declared.declared.Property.{Property}
use Rattle.ply_read.specs.declared.declared.Declared.{Declared}
use Rattle.ply_read.specs.declared.declared.Declared.TheVariants as lines_of
use Rattle.ply_read.specs.Steps.{repeated, folded}
use Rattle.ply_read.specs.Body.{Row, empty_row, with_property, SoFar, at_body, with_face, with_row}
use Rattle.ply_read.specs.Body.{with_element, with_elements, own, with_declared, one_more}
use Rattle.ply_read.specs.Header.{Header, header_of}
use Rattle.ply_read.specs.Ply.{Triangles, triangles_of, placed, body_of, ply_meaning_of}
use Rattle.mesh_scan.specs.Meaning.{ply_scanned}
use Rattle.mesh_scan.proofs.PlyHeaderLaws.{bind_ok, else_is, vertices_of, vertex_total}
use Rattle.mesh_scan.proofs.PlyHeaderLaws.{header_fits}
use Rattle.mesh_scan.proofs.ExactLaws.{IsSound}
use Rattle.mesh_scan.proofs.PlyExactLaws.{vertex_exact}
use Rattle.mesh_scan.proofs.PlyRowLaws.{AreBelow, folded_keeps, face_keeps}

-- What the elements so far give is within the limits.

abbrev scanned_so_far : SoFar → Scanned
scanned_so_far s = record {
  points = s.points;
  inexact = 0;
  faces = s.faces;
  polygons = s.polygons;
  passed = none_passed;
}

-- So it is after one element, or so many, of this kind.
record IsAfter (s t : SoFar) (more : ℕ) : Type 0 where
  within : IsSound (scanned_so_far t)
  points : length t.points ≤ length s.points + more

short_face : (s t : SoFar) (corners rest : List ℕ) → IsSound (scanned_so_far s)
    → All (λ (c : ℕ). c < length s.points) corners → with_face s corners rest ≡ Ok t
    → IsAfter s t 0
unfolding with_face
short_face s t corners rest within below is =
    elim (cases_Bool (nat_lt (length corners) 3)) [
      | inl short ↦
          let after : SoFar = record s { short_faces = one_more s.short_faces; rest = rest } in
          let same : after ≡ t = let at = rw short at is in cc in
          subst (λ (x : SoFar). IsAfter s x 0) same
          (record { within = within; points = omega arith })
      | inr long ↦
          let after : SoFar = record s {
            faces = s.faces ++ triangles s.points corners;
            polygons = polygons_after s.polygons (length s.faces) corners;
            rest = rest;
          } in
          let (room, same) = else_is (nat_lt 1048576 (length s.faces + (length corners - 2))) _
          after t (rw long at is) in
          let kept = polygon_kept (scanned_so_far s) 0 corners within.within below
          (ltb-false 1048576 (length s.faces + (length corners - 2)) room) in
          subst (λ (x : SoFar). IsAfter s x 0) same
          (record {
            within = record { exact = within.exact; within = kept };
            points = omega arith;
          })
    ]

row_after : (kind : Kind) (s t : SoFar) (r : Row) → IsSound (scanned_so_far s)
    → (kind ≡ kinds.Face → AreBelow (length s.points) r) → (kind ≡ kinds.Vertex → AreExact r.point)
    → length s.points + vertices_of kind 1 ≤ 1048576 → with_row kind s r ≡ Ok t
    → IsAfter s t (vertices_of kind 1)
row_after kinds.Vertex s t r within below exact room is =
    let after : SoFar = record s { points = s.points ++ r.point ∷ []; rest = r.rest } in
    let same : after ≡ t = cc in
    subst (λ (x : SoFar). IsAfter s x 1) same (record {
      within = record {
        exact = All-push AreExact s.points r.point within.exact (exact refl);
        within = vertex_within (scanned_so_far s) 0 r.point true None within.within
            (omega (arith, room));
      };
      points = omega (arith, length-append s.points (r.point ∷ []));
    })
row_after kinds.Face s t r within below exact room is =
    short_face s t r.corners r.rest within (below refl) is
row_after kinds.Other s t r within below exact room is =
    let after : SoFar = record s { rest = r.rest } in
    let same : after ≡ t = cc in
    subst (λ (x : SoFar). IsAfter s x 0) same (record { within = within; points = omega arith })

-- Where the element is a face its corners are vertices.
row_below : (e : Encoding) (kind : Kind) (vertices : ℕ) (ps : List Property) (rest : List ℕ)
    (r : Row) → folded (with_property e kind vertices) ps (empty_row rest) ≡ Ok r
    → kind ≡ kinds.Face → AreBelow vertices r
row_below e kinds.Face vertices ps rest r read is =
    folded_keeps (AreBelow vertices) (with_property e kinds.Face vertices)
    (λ p s t below step. face_keeps e vertices p.role p.length p s t below step) ps
    (empty_row rest) r (All-nil _) read
row_below e kinds.Vertex vertices ps rest r read is = absurd (cc)
row_below e kinds.Other vertices ps rest r read is = absurd (cc)

-- Where the element is a vertex its point is near enough.
row_exact : (e : Encoding) (kind : Kind) (vertices : ℕ) (ps : List Property) (rest : List ℕ)
    (r : Row) → folded (with_property e kind vertices) ps (empty_row rest) ≡ Ok r
    → kind ≡ kinds.Vertex → AreExact r.point
row_exact e kinds.Vertex vertices ps rest r read is =
    folded_keeps (λ (s : Row). AreExact s.point) (with_property e kinds.Vertex vertices)
    (λ p s t exact step. vertex_exact e p.role p s t exact step) ps (empty_row rest) r
    (omega arith, omega arith, omega arith) read
row_exact e kinds.Face vertices ps rest r read is = absurd (cc)
row_exact e kinds.Other vertices ps rest r read is = absurd (cc)

element_after : (e : Encoding) (kind : Kind) (ps : List Property) (s t : SoFar)
    → IsSound (scanned_so_far s) → length s.points + vertices_of kind 1 ≤ 1048576
    → with_element e kind ps s ≡ Ok t → IsAfter s t (vertices_of kind 1)
unfolding with_element
element_after e kind ps s t within room is =
    let (r, read, put) = bind_ok
    (folded (with_property e kind (length s.points)) ps (empty_row s.rest)) (with_row kind s) t
    is in
    row_after kind s t r within (row_below e kind (length s.points) ps s.rest r read)
    (row_exact e kind (length s.points) ps s.rest r read) room put

one_and_more : (kind : Kind) (n : ℕ)
    → vertices_of kind (suc n) ≡ vertices_of kind 1 + vertices_of kind n
one_and_more kinds.Vertex n = omega arith
one_and_more kinds.Face n = refl
one_and_more kinds.Other n = refl

none_more : (kind : Kind) → vertices_of kind 0 ≡ 0
none_more kinds.Vertex = refl
none_more kinds.Face = refl
none_more kinds.Other = refl

repeated_after : (e : Encoding) (kind : Kind) (ps : List Property) (n : ℕ) (s t : SoFar)
    → IsSound (scanned_so_far s) → length s.points + vertices_of kind n ≤ 1048576
    → repeated (with_element e kind ps) n s ≡ Ok t → IsAfter s t (vertices_of kind n)
repeated_after e kind ps zero s t within room is =
    let same : s ≡ t = cc in
    subst (λ (x : SoFar). IsAfter s x (vertices_of kind 0)) same
    (record { within = within; points = omega (arith, none_more kind) })
repeated_after e kind ps (suc n) s t within room is =
    let (u, first, later) = bind_ok (with_element e kind ps s) _ t is in
    let at = one_and_more kind n in
    let one = element_after e kind ps s u within (omega (arith, at, room)) first in
    let all = repeated_after e kind ps n u t one.within (omega (arith, at, room, one.points))
    later in
    record { within = all.within; points = omega (arith, at, one.points, all.points) }

elements_after : (e : Encoding) (kind : Kind) (n : ℕ) (ps : List Property) (s t : SoFar)
    → IsSound (scanned_so_far s) → length s.points + vertices_of kind n ≤ 1048576
    → with_elements e kind n ps s ≡ Ok t → IsAfter s t (vertices_of kind n)
elements_after e kind n ps s t within room is =
    elim (cases_Bool (length ps == 0)) [
      | inl none ↦
          let same : s ≡ t = let at = rw none at is in cc in
          subst (λ (x : SoFar). IsAfter s x (vertices_of kind n)) same
          (record { within = within; points = omega arith })
      | inr some ↦ repeated_after e kind ps n s t within room (rw some at is)
    ]

declared_within : (e : Encoding) (ds : List Declared) (s t : SoFar)
    → IsSound (scanned_so_far s) → length s.points + vertex_total ds ≤ 1048576
    → with_declared e ds s ≡ Ok t → IsSound (scanned_so_far t)
declared_within e [] s t within room is =
    let same : s ≡ t = cc in
    subst (λ (x : SoFar). IsSound (scanned_so_far x)) same within
declared_within e (lines_of.Element el ∷ ds) s t within room is =
    let (u, first, later) = bind_ok (with_elements e el.kind el.count (own ds) s) _ t is in
    let after = elements_after e el.kind el.count (own ds) s u within (omega (arith, room)) first in
    declared_within e ds u t after.within (omega (arith, room, after.points)) later
declared_within e (lines_of.Property p ∷ ds) s t within room is =
    declared_within e ds s t within room is

placed_ok : {A : Type 0} (e : Encoding) (bytes : List ℕ) (r : Result A _) (a : A)
    → placed e bytes r ≡ Ok a → r ≡ Ok a
placed_ok e bytes (Ok b) a is = let same : b ≡ a = cc in cc
placed_ok e bytes (Err stop) a is = absurd (cc)

nothing_sound : (rest : List ℕ) → IsSound (scanned_so_far (at_body rest))
nothing_sound rest = record {
  exact = All-nil AreExact;
  within = record {
    points = omega arith;
    inexact = omega arith;
    faces = omega arith;
    corners = All-nil _;
    polygons = All-nil _;
    polygons_few = omega arith;
  };
}

body_sound : (bytes : List ℕ) (h : Header) (t : Triangles) → vertex_total h.declared ≤ 1048576
    → body_of bytes h ≡ Ok t → IsSound (ply_scanned t)
body_sound bytes h t few is =
    let (s, read, made) = bind_ok (placed h.encoding bytes
    (with_declared h.encoding h.declared (at_body h.body))) _ t is in
    let sound = declared_within h.encoding h.declared (at_body h.body) s (nothing_sound h.body)
    (omega (arith, few)) (placed_ok h.encoding bytes _ s read) in
    let all : Triangles = triangles_of h s in
    let same : all ≡ t = cc in
    subst (λ (x : Triangles). IsSound (ply_scanned x)) same (record {
      exact = sound.exact;
      within = record {
        points = sound.within.points;
        inexact = sound.within.inexact;
        faces = sound.within.faces;
        corners = sound.within.corners;
        polygons = sound.within.polygons;
        polygons_few = sound.within.polygons_few;
      };
    })

pub ply_sound : (bytes : List ℕ) (t : Triangles) → ply_meaning_of bytes ≡ Ok t
    → IsSound (ply_scanned t)
unfolding ply_meaning_of
ply_sound bytes t is =
    let (h, read, body) = bind_ok (header_of bytes) (body_of bytes) t is in
    body_sound bytes h t (header_fits bytes h read) body

pub ply_within : (bytes : List ℕ) (t : Triangles) → ply_meaning_of bytes ≡ Ok t
    → IsWithinLimits (ply_scanned t)
ply_within bytes t is = (ply_sound bytes t is).within
