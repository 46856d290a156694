-- What the properties of a PLY file's element keep.
use Rattle.std.proofs.Common.{◌≡◌, ℕ, suc, zero, ◌<◌, nat_lt, List, [], ◌∷◌, ◌++◌, Option}
use Rattle.std.proofs.Common.{Some, None, subst, arith, Result, Ok, Err, inl, inr}
use Rattle.std.specs.List.{All}
use Rattle.std.proofs.lemmas.Bool.{cases_Bool, ltb-true}
use Rattle.std.proofs.lemmas.List.Elements.{All-append, All-cons, All-nil}
use Rattle.ply_read.specs.declared.declared.Encoding.{Encoding}
use Rattle.ply_read.specs.declared.declared.ScalarType.{ScalarType}
use Rattle.ply_read.specs.declared.declared.Role.{Role}
use Rattle.ply_read.specs.declared.declared.Role.TheVariants as roles
use Rattle.ply_read.specs.declared.declared.Property.{Property}
use Rattle.ply_read.specs.declared.fault.PlyFault.{PlyFault}
use Rattle.ply_read.specs.Steps.{repeated, folded}
use Rattle.ply_read.specs.Items.{next_item, whole_of, among, vertex, count, after_value}
use Rattle.ply_read.specs.Body.{Row, passed, with_corner, with_list, face_property}
use Rattle.mesh_scan.proofs.PlyHeaderLaws.{bind_ok}
use Rattle.mesh_scan.proofs.PlyExactLaws.{valued_ok}

-- What each step keeps, all of them keep.

repeated_keeps : {S : Type 0} (P : S → Type 0) (step : S → Result S _)
    → ((s t : S) → P s → step s ≡ Ok t → P t)
    → (n : ℕ) (s t : S) → P s → repeated step n s ≡ Ok t → P t
repeated_keeps P step keeps zero s t has is = let e : s ≡ t = cc in subst P e has
repeated_keeps P step keeps (suc n) s t has is =
    let (u, first, later) = bind_ok (step s) (repeated step n) t is in
    repeated_keeps P step keeps n u t (keeps s u has first) later

pub folded_keeps : {X S : Type 0} (P : S → Type 0) (step : X → S → Result S _)
    → ((x : X) (s t : S) → P s → step x s ≡ Ok t → P t)
    → (xs : List X) (s t : S) → P s → folded step xs s ≡ Ok t → P t
folded_keeps P step keeps [] s t has is = let e : s ≡ t = cc in subst P e has
folded_keeps P step keeps (x ∷ xs) s t has is =
    let (u, first, later) = bind_ok (step x s) (folded step xs) t is in
    folded_keeps P step keeps xs u t (keeps x s u has first) later

-- A corner is one of the vertices.

among_below : (vertices : ℕ) (r : Result ℕ PlyFault) (v : ℕ) → among vertices r ≡ Ok v
    → v < vertices
among_below vertices (Ok n) v is =
    elim (cases_Bool (nat_lt n vertices)) [
      | inl less ↦
          let e : n ≡ v = let at = rw less at is in cc in
          omega (arith, e, ltb-true n vertices less)
      | inr more ↦ absurd (let at = rw more at is in cc)
    ]
among_below vertices (Err fault) v is = absurd (cc)

vertex_below : (e : Encoding) (vertices : ℕ) (t : ScalarType) (rest : List ℕ) (v : ℕ × List ℕ)
    → vertex e vertices t rest ≡ Ok v → v.0 < vertices
unfolding vertex
vertex_below e vertices t rest v is =
    let (i, item, made) = bind_ok (next_item e t rest) _ v is in
    among_below vertices (whole_of e t i.bytes) v.0
    (valued_ok i (among vertices (whole_of e t i.bytes)) v made)

-- The corners so far are.
abbrev pub AreBelow : ℕ → Row → Type 0
AreBelow vertices r = All (λ (c : ℕ). c < vertices) r.corners

corner_keeps : (e : Encoding) (vertices : ℕ) (t : ScalarType) (r u : Row) → AreBelow vertices r
    → with_corner e vertices t r ≡ Ok u → AreBelow vertices u
unfolding with_corner
corner_keeps e vertices t r u below is =
    let (v, read, made) = bind_ok (vertex e vertices t r.rest) _ u is in
    let after : Row = record r { corners = r.corners ++ v.0 ∷ []; rest = v.1 } in
    let same : after ≡ u = cc in
    let P : ℕ → Type 0 = λ c. c < vertices in
    subst (AreBelow vertices) same (All-append P r.corners (v.0 ∷ []) below
    (All-cons P v.0 [] (vertex_below e vertices t r.rest v read) (All-nil P)))

list_keeps : (e : Encoding) (vertices : ℕ) (c t : ScalarType) (r u : Row) → AreBelow vertices r
    → with_list e vertices c t r ≡ Ok u → AreBelow vertices u
unfolding with_list
list_keeps e vertices c t r u below is =
    let (n, read, made) = bind_ok (count e c r.rest) _ u is in
    repeated_keeps (AreBelow vertices) (with_corner e vertices t) (corner_keeps e vertices t) n.0
    (record r { rest = n.1 }) u below made

passed_keeps : (e : Encoding) (vertices : ℕ) (p : Property) (r u : Row) → AreBelow vertices r
    → passed e p r ≡ Ok u → AreBelow vertices u
passed_keeps e vertices p r u below is =
    let (rest, read, made) = bind_ok (after_value e p.length p.item r.rest) _ u is in
    let after : Row = record r { rest = rest } in
    let same : after ≡ u = cc in
    subst (AreBelow vertices) same below

pub face_keeps : (e : Encoding) (vertices : ℕ) (role : Role) (c : Option ScalarType) (p : Property)
    (r u : Row) → AreBelow vertices r → face_property e vertices role c p r ≡ Ok u
    → AreBelow vertices u
face_keeps e vertices roles.Corners (Some c) p r u below is =
    list_keeps e vertices c p.item r u below is
face_keeps e vertices roles.Corners None p r u below is = passed_keeps e vertices p r u below is
face_keeps e vertices roles.X c p r u below is = passed_keeps e vertices p r u below is
face_keeps e vertices roles.Y c p r u below is = passed_keeps e vertices p r u below is
face_keeps e vertices roles.Z c p r u below is = passed_keeps e vertices p r u below is
face_keeps e vertices roles.Normal c p r u below is = passed_keeps e vertices p r u below is
face_keeps e vertices roles.Colour c p r u below is = passed_keeps e vertices p r u below is
face_keeps e vertices roles.Texture c p r u below is = passed_keeps e vertices p r u below is
face_keeps e vertices roles.Other c p r u below is = passed_keeps e vertices p r u below is
