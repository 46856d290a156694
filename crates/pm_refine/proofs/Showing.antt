-- The target of a view by deviations is near to the planes of the faces that it shows.
use Rattle.std.proofs.Common.{◌≡◌, ℕ, ◌+◌, ◌*◌, ◌<◌, ◌≤◌, true, false, None, Some, refl, sym, subst}
use Rattle.std.proofs.Common.{inl, inr, arith}
use Rattle.std.specs.Prelude.{ℤ, pos, ◌+ℤ◌, ◌*ℤ◌, unsigned_abs}
use Rattle.std.proofs.lemmas.Bool.{false_from_ne_true}
use Rattle.std.proofs.lemmas.Int.{unsigned_abs-mul}
use Rattle.pm_base.specs.Geometry.{dist2_of, norm2_of, square_of}
use Rattle.pm_base.specs.Sides.{face_of}
use Rattle.pm_forest.specs.Forest.{Hierarchy, record_count, node_count, leaf_count, splitter_of}
use Rattle.pm_forest.specs.Forest.{Holds}
use Rattle.pm_forest.specs.Faces.{face_count, corners_of, from_leaf}
use Rattle.pm_forest.specs.Fronts.{ancestor_of, IsActive}
use Rattle.pm_forest.specs.Meshes.{leaf_place}
use Rattle.pm_forest.specs.Places.{place_of_node}
use Rattle.pm_forest.specs.Rules.{HasShape}
use Rattle.pm_forest.proofs.Nodes.{splitter_of-splits}
use Rattle.pm_forest.proofs.Ancestors.{ancestor-lt, active-ancestor, holds-ancestor_of}
use Rattle.pm_forest.proofs.ShapeLaws.{shape_of_nodes, shape_of_faces}
use Rattle.pm_beyond.proofs.PlanTheory.{targets}
use Rattle.pm_bounds.specs.Bounds.{normal_of}
use Rattle.pm_deviation.specs.Deviations.{plane_deviation_of}
use Rattle.pm_deviation.specs.Laws.{value_of, IsWithin}
use Rattle.pm_deviation.proofs.PlaneValues.{triangles_near}
use Rattle.pm_deviation.proofs.NearLaws.{planes_near}
use Rattle.pm_deviation.proofs.StepLaws.{planes_at_leaf}
use Rattle.pm_base.proofs.Ring.{diff-of, diff_same, add-diff, mul-diff, neg-diff}
use Rattle.pm_base.proofs.Search.{option_cases}
use Rattle.pm_view.specs.declared.measure.Measure.TheVariants as measures
use Rattle.pm_view.specs.Views.{View}
use Rattle.pm_view.specs.Wanted.{is_wanted}
use Rattle.pm_view.specs.Laws.{IsCornerNear, IsTiny}
use Rattle.pm_view.specs.Laws.{IsWithin as looks_within}
use Rattle.pm_view.proofs.NodeLaws.{unwanted_for_a_reason}
use Rattle.pm_refine.specs.Adapting.{view_target}
use Rattle.pm_refine.specs.Showing.{IsLookedAt, LooksNear, ShownTrianglesAreNear}

-- A value of 0 fits.
none_fits : (f a n b : ℕ) → a * a ≤ 0 * 0 * n → f * f * (a * a) ≤ b
none_fits f a n b h =
    let none : a * a ≡ 0 = omega (arith, h) in
    subst (λ s. f * f * s ≤ b) (sym none) (omega arith)

squares : (f a b : ℕ) → f * f * (a * a) ≤ b → (f * a) * (f * a) ≤ 1 * 1 * b
squares f a b h = omega (arith, h)

-- A value times f is within 1 of a plane whose squared length is b.
times_focal : (f : ℕ) (a : ℤ) (b : ℕ) → f * f * square_of (unsigned_abs a) ≤ b
    → IsWithin (pos f *ℤ a) b 1
times_focal f a b h =
    subst (λ t. t * t ≤ 1 * 1 * b) (sym (unsigned_abs-mul (pos f) a))
    (squares f (unsigned_abs a) b h)

-- The sum of three values with weights, each times f.
taken_out : (f u v w i j k : ℤ) → i *ℤ (f *ℤ u) +ℤ j *ℤ (f *ℤ v) +ℤ k *ℤ (f *ℤ w)
    ≡ f *ℤ (i *ℤ u +ℤ j *ℤ v +ℤ k *ℤ w)
taken_out f u v w i j k =
    rw (diff-of f, diff-of u, diff-of v, diff-of w, diff-of i, diff-of j, diff-of k)
    (simp (add-diff, neg-diff, mul-diff) (diff_same _ _ _ _ (omega arith)))

again : (f a n b : ℕ) → (f * a) * (f * a) ≤ (n * 1) * (n * 1) * b → f * f * (a * a) ≤ n * n * b
again f a n b h = omega (arith, h)

weighed : (f : ℕ) (u v w : ℤ) (b i j k : ℕ)
    → f * f * square_of (unsigned_abs u) ≤ b → f * f * square_of (unsigned_abs v) ≤ b
    → f * f * square_of (unsigned_abs w) ≤ b
    → f * f * square_of (unsigned_abs (pos i *ℤ u +ℤ pos j *ℤ v +ℤ pos k *ℤ w)) ≤ square_of
    (i + j + k) * b
weighed f u v w b i j k p q r =
    let all = triangles_near (pos f *ℤ u) (pos f *ℤ v) (pos f *ℤ w) b 1 i j k
    (times_focal f u b p) (times_focal f v b q) (times_focal f w b r) in
    let one = rw (taken_out (pos f) u v w (pos i) (pos j) (pos k)) at all in
    again f (unsigned_abs (pos i *ℤ u +ℤ pos j *ℤ v +ℤ pos k *ℤ w)) (i + j + k) b
    (subst (λ t. t * t ≤ ((i + j + k) * 1) * ((i + j + k) * 1) * b)
    (unsigned_abs-mul (pos f) (pos i *ℤ u +ℤ pos j *ℤ v +ℤ pos k *ℤ w)) one)

module _ (h : Hierarchy) (shape : HasShape h) (view : View) (by : view.measure ≡ measures.Deviation)
  where
    -- the value at node v of the plane of side e's face
    abbrev value : ℕ → ℕ → ℤ
    value e v = value_of h (corners_of h (face_of e)) (place_of_node h v)

    -- the squared length of its normal
    abbrev square : ℕ → ℕ
    square e = norm2_of (normal_of h (corners_of h (face_of e)))

    -- what the tolerance allows, seen from where side e begins
    abbrev allowed : ℕ → ℕ
    allowed e = view.tol * view.tol * dist2_of (leaf_place h (from_leaf h e)) view.eye * square e

    abbrev fits : ℕ → ℕ → Type 0
    fits e v = view.focal * view.focal * square_of (unsigned_abs (value e v)) ≤ allowed e

    -- a node that no record splits lies on the planes of its faces
    alone_fits : (v e under : ℕ) → v < node_count h → under < 3 * face_count h
        → face_of under ≡ face_of e → Holds h v (from_leaf h under)
        → splitter_of h v ≡ None → fits e v
    alone_fits v e under l side same held alone =
        let near = planes_near h shape under side v l held in
        let flat = planes_at_leaf h (shape_of_nodes h shape) v alone in
        let on : IsWithin (value e v) (square e) 0 =
        subst (λ d. IsWithin (value e v) (square e) d) flat
        (subst (λ f. IsWithin (value_of h (corners_of h f) (place_of_node h v))
        (norm2_of (normal_of h (corners_of h f))) (plane_deviation_of h v)) same near) in
        none_fits view.focal (unsigned_abs (value e v)) (square e) (allowed e) on

    -- a node that is split by a record outside the target isn't wanted
    unwanted : (v k : ℕ) → IsActive h (view_target h view) v → splitter_of h v ≡ Some k
        → is_wanted h view v ≡ false
    unwanted v k active split =
        let is = splitter_of-splits h k v split in
        let takes = (targets h shape (is_wanted h view)).takes k is.1 in
        false_from_ne_true (is_wanted h view v)
        (λ wanted. active.1 k is.1
        (takes (subst (λ w. is_wanted h view w ≡ true) (sym is.0) wanted))
        is.0)

    tiny : (v : ℕ) → v < node_count h → is_wanted h view v ≡ false → IsLookedAt h view v
        → IsTiny h view v
    tiny v l unasked (in_front, turned) =
        elim (unwanted_for_a_reason h shape view v l unasked) [
          | inl behind ↦ absurd (in_front behind)
          | inr other ↦ elim other [
            | inl (away, one) ↦ elim one [
              | inl error ↦ absurd (cc (by, error))
              | inr closed ↦ absurd (turned closed away)
            ]
            | inr small ↦ small
          ]
        ]

    tiny_fits : (v e : ℕ) → IsTiny h view v → IsCornerNear h v e → fits e v
    tiny_fits v e small corner = (subst (λ m. looks_within m h view view.tol v) by small.0) e corner

    node_fits : (x e under : ℕ) → x ≡ from_leaf h under → under < 3 * face_count h
        → face_of under ≡ face_of e
        → IsLookedAt h view (ancestor_of h (view_target h view) x) → e < 3 * face_count h
        → fits e (ancestor_of h (view_target h view) x)
    node_fits x e under is side same looked l =
        let T = view_target h view in
        let v = ancestor_of h T x in
        let nodes = shape_of_nodes h shape in
        let leaf : x < leaf_count h =
        subst (λ y. y < leaf_count h) (sym is) ((shape_of_faces h shape).leaves under side) in
        let held : Holds h v (from_leaf h under) =
        subst (λ y. Holds h v y) is (holds-ancestor_of h nodes T x leaf) in
        let there = ancestor-lt h nodes T (record_count h) x leaf in
        elim (option_cases (splitter_of h v)) [
          | inl alone ↦ alone_fits v e under there side same held alone
          | inr (k, split) ↦
              tiny_fits v e
              (tiny v there (unwanted v k (active-ancestor h nodes T x leaf) split) looked)
              (record { under = under; side = l; same_face = same; held = held })
        ]

    pub triangles_fit : (e i j k : ℕ) → e < 3 * face_count h
        → let node =
        λ (corner : ℕ). ancestor_of h (view_target h view)
        (from_leaf h (3 * face_of e + corner)) in
        IsLookedAt h view (node 0) → IsLookedAt h view (node 1) → IsLookedAt h view (node 2)
        → LooksNear h view e (node 0) (node 1) (node 2) i j k
    triangles_fit e i j k l first second third =
        let node = λ (corner : ℕ). ancestor_of h (view_target h view)
        (from_leaf h (3 * face_of e + corner)) in
        let fit = λ (corner : ℕ) (few : corner < 3) (looked : IsLookedAt h view (node corner)).
        node_fits (from_leaf h (3 * face_of e + corner)) e (3 * face_of e + corner) refl
        (omega arith)
        (omega arith) looked l in
        weighed view.focal (value e (node 0)) (value e (node 1)) (value e (node 2)) (allowed e) i j
        k
        (fit 0 (omega arith) first) (fit 1 (omega arith) second) (fit 2 (omega arith) third)

pub near : ShownTrianglesAreNear
near h shape view by = triangles_fit h shape view by
