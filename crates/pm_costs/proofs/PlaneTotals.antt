-- The planes at the vertices of a mesh: what one more face adds.
use Rattle.std.proofs.Common.{◌≡◌, ℕ, ◌+◌, ◌<◌, ◌≤◌, true, false, cond, List, [], ◌∷◌, ◌++◌}
use Rattle.std.proofs.lemmas.Grind.{common_steps}
use Rattle.std.proofs.Common.{length, map, get_or, take, append-nil, inl, inr, refl, sym, ap, ◌∙◌}
use Rattle.std.proofs.Common.{arith}
use Rattle.std.specs.List.{filter}
use Rattle.std.proofs.Math.Seq.{take-suc}
use Rattle.std.proofs.lemmas.List.{map-append}
use Rattle.std.proofs.lemmas.List.Elements.{filter-append}
use Rattle.std.proofs.lemmas.Bool.{cases_Bool, cond-true, cond-false}
use Rattle.pm_base.specs.Counts.{one_if}
use Rattle.pm_base.specs.Place.{Place}
use Rattle.pm_base.specs.declared.mesh.Corners.{Corners}
use Rattle.pm_base.specs.Sides.{no_corners}
use Rattle.pm_base.proofs.Counts.{one_if-le}
use Rattle.pm_quadric.specs.Planes.{Plane}
use Rattle.pm_quadric.specs.Sums.{Sums, plus_sums, sums_of}
use Rattle.pm_quadric.proofs.QuadricLaws.{sums_joined}
use Rattle.pm_runs.specs.Planes.{planes_at, plane_of_face, has_corner}
use Rattle.pm_costs.specs.Slots.{mesh_with}

-- The planes of one face at a vertex.
abbrev one_plane : List Place → Corners → ℕ → List Plane
one_plane points f v = map (plane_of_face (mesh_with points [])) (filter (has_corner v) (f ∷ []))

planes-more : (points : List Place) (faces : List Corners) (i v : ℕ) → i < length faces →
    planes_at (mesh_with points (take (i + 1) faces)) v
    ≡ planes_at (mesh_with points (take i faces)) v
    ++ one_plane points (get_or faces i no_corners) v
unfolding planes_at
planes-more points faces i v l =
    grind (arith, common_steps, filter-append, get_or, map-append, take-suc)

one-is : (points : List Place) (f : Corners) (v : ℕ)
    → one_plane points f v ≡ cond (has_corner v f) (plane_of_face (mesh_with points []) f ∷ []) []
one-is points f v =
    elim (has_corner v f) as (λ b. map (plane_of_face (mesh_with points [])) (cond b (f ∷ []) [])
    ≡ cond b (plane_of_face (mesh_with points []) f ∷ []) []) [ true ↦ refl | false ↦ refl ]

-- A vertex with one more face.
pub quadric-more : (points : List Place) (faces : List Corners) (i v : ℕ) (f : Corners)
    (old new : Sums) → i < length faces → f ≡ get_or faces i no_corners →
    old ≡ sums_of (planes_at (mesh_with points (take i faces)) v) →
    new ≡ cond (has_corner v f)
    (plus_sums old (sums_of (plane_of_face (mesh_with points []) f ∷ []))) old →
    new ≡ sums_of (planes_at (mesh_with points (take (i + 1) faces)) v)
quadric-more points faces i v f old new l is before after =
    let before_is : List Plane = planes_at (mesh_with points (take i faces)) v in
    let plane : List Plane = plane_of_face (mesh_with points []) f ∷ [] in
    let more = planes-more points faces i v l ∙ ap (λ k. before_is ++ one_plane points k v) (sym is)
    ∙ ap (λ k. before_is ++ k) (one-is points f v) in
    elim (cases_Bool (has_corner v f)) [
      | inl t ↦ after ∙ cond-true _ _ _ t
          ∙ sums_joined old (sums_of plane) before_is plane before refl
          ∙ ap sums_of (ap (λ k. before_is ++ k) (sym (cond-true _ plane [] t)) ∙ sym more)
      | inr t ↦ after ∙ cond-false _ _ _ t ∙ before
          ∙ ap sums_of (sym (append-nil before_is)
          ∙ ap (λ k. before_is ++ k) (sym (cond-false _ plane [] t)) ∙ sym more)
    ]

length-one : (points : List Place) (f : Corners) (fs : List Corners) (v : ℕ) →
    length (planes_at (mesh_with points (f ∷ fs)) v)
    ≡ one_if (has_corner v f) + length (planes_at (mesh_with points fs) v)
unfolding planes_at
length-one points f fs v = grind (arith, common_steps)

-- There are no more planes at a vertex than faces.
pub planes-short : (points : List Place) (faces : List Corners) (v : ℕ)
    → length (planes_at (mesh_with points faces) v) ≤ length faces
unfolding planes_at
planes-short points [] v = omega arith
planes-short points (f ∷ fs) v =
    omega (arith, length-one points f fs v, one_if-le (has_corner v f), planes-short points fs v)
