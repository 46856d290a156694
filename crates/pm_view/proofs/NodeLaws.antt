-- The laws of wanted nodes, from the bounds that a hierarchy's nodes have.
use Rattle.std.proofs.Common.{◌≡◌, ℕ, ◌*◌, ◌<◌, true, false, ◌&&◌, not, ◌⊎◌, inl, inr, refl, subst}
use Rattle.std.proofs.Common.{arith}
use Rattle.std.proofs.lemmas.Grind.{common_steps}
use Rattle.std.specs.Prelude.{◌≤◌, unsigned_abs}
use Rattle.std.proofs.Math.Nat.{le_refl, le_trans}
use Rattle.std.proofs.lemmas.Nat.{mul-le}
use Rattle.pm_base.specs.Geometry.{dist2_of, norm2_of, square_of}
use Rattle.pm_base.specs.Rounded.{distance_of}
use Rattle.pm_base.specs.Sides.{face_of}
use Rattle.pm_forest.specs.Forest.{Hierarchy, record_count, node_count, s_of, Makes}
use Rattle.pm_forest.specs.Faces.{face_count, corners_of, from_leaf}
use Rattle.pm_forest.specs.Places.{place_of_node}
use Rattle.pm_forest.specs.Rules.{HasShape}
use Rattle.pm_forest.specs.Meshes.{leaf_place}
use Rattle.pm_bounds.specs.Bounds.{normal_of, leaf_radius, error_of, radius_of}
use Rattle.pm_bounds.proofs.Covering.{near, errors_grow, radii_grow, child_number, leaves_covered}
use Rattle.pm_bounds.proofs.Covering.{corners_covered, normals_boxed, boxes_nest}
use Rattle.pm_deviation.specs.Borders.{has_border}
use Rattle.pm_deviation.specs.Laws.{value_of}
use Rattle.pm_deviation.proofs.GrowingLaws.{grow}
use Rattle.pm_deviation.proofs.NearLaws.{planes_near}
use Rattle.pm_deviation.proofs.PlaneValues.{within_more}
use Rattle.pm_deviation.proofs.OrderLaws.{planes_below_deviation}
use Rattle.pm_deviation.specs.Deviations.{plane_deviation_of, deviation_of}
use Rattle.pm_view.specs.declared.measure.Measure.{Measure}
use Rattle.pm_view.specs.declared.measure.Measure.TheVariants as measures
use Rattle.pm_view.specs.Views.{View}
use Rattle.pm_view.specs.Wanted.{bounded, size_of, sees_both, is_outside_any, may_be_seen}
use Rattle.pm_view.specs.Wanted.{looks_large, is_wanted}
use Rattle.pm_view.specs.Laws.{IsCornerNear, IsBehind, IsTurnedAway, IsWithinTolerance}
use Rattle.pm_view.specs.Laws.{IsOneSided, IsNearPlanes, IsWithin, IsTiny}
use Rattle.pm_view.proofs.Premises.{IsChild, IsCorner, LooksWithin}
use Rattle.pm_view.proofs.Passing.{focal_times, wanted_passes, reasons, plain}

-- where m m is at most d d n, and what d looks like is at most b, what m looks like is at most b n
value_fits : (f m d n b : ℕ) → m * m ≤ d * d * n → (d * f) * (d * f) ≤ b → f * f * (m * m) ≤ b * n
value_fits f m d n b near fine =
    omega (
      arith,
      mul-le (f * f) (m * m) (f * f) (d * d * n) (le_refl (f * f)) near,
      mul-le ((d * f) * (d * f)) n b n fine (le_refl n),
    )

module _ (h : Hierarchy) (shape : HasShape h) where
  child : (k v : ℕ) → k < record_count h → Makes h k v
      → IsChild (bounded h v) (bounded h (s_of h k))
  child k v l makes = record {
    d = distance_of (place_of_node h (s_of h k)) (place_of_node h v);
    near = near (place_of_node h (s_of h k)) (place_of_node h v);
    error = child_number h shape (λ w. 0) (error_of h) (errors_grow h shape) k v l makes;
    deviation = (grow h shape k v l makes).deviation;
    radius = child_number h shape (leaf_radius h) (radius_of h) (radii_grow h shape) k v l makes;
    nested = boxes_nest h shape k v l makes;
    two_sided = refl;
  }

  corner : (v e : ℕ) → v < node_count h → IsCornerNear h v e
      → IsCorner (bounded h v) (normal_of h (corners_of h (face_of e)))
      (leaf_place h (from_leaf h e))
  corner v e l c =
      grind (
        arith,
        common_steps,
        near,
        corners_covered h shape v c.under e l,
        normals_boxed h shape v c.under,
      )

  pub wanting_passes_up : (view : View) (k v : ℕ) → k < record_count h → Makes h k v
      → is_wanted h view v ≡ true → is_wanted h view (s_of h k) ≡ true
  wanting_passes_up view k v l makes e =
      wanted_passes (bounded h v) (bounded h (s_of h k)) view (child k v l makes) e

  -- by way of a corner the size looks no larger than the tolerance
  abbrev fits : (v e size : ℕ) (view : View) (tol : ℕ) → Type 0
  fits v e size view tol =
      IsCornerNear h v e
      → (size * view.focal) * (size * view.focal) ≤ tol * tol * dist2_of
      (leaf_place h (from_leaf h e)) view.eye

  leaves_within : (v : ℕ) → v < node_count h → (view : View) (tol : ℕ)
      → ((e : ℕ) → fits v e (error_of h v) view tol) → IsWithinTolerance h view tol v
  leaves_within v l view tol fine x s held c =
      le_trans (focal_times view.focal (dist2_of (place_of_node h v) (leaf_place h x))
      (error_of h v) (leaves_covered h shape v x l held)) (fine s c)

  -- the plane of a face that has a corner under the node
  plane_near : (v e : ℕ) → v < node_count h → IsCornerNear h v e
      → let f = corners_of h (face_of e) in
      square_of (unsigned_abs (value_of h f (place_of_node h v))) ≤ square_of
      (deviation_of h v) * norm2_of (normal_of h f)
  plane_near v e l c =
      let under = c.under in
      let side = c.side in
      let same = c.same_face in
      let other : under < 3 * face_count h = omega arith in
      let near = planes_near h shape under other v l c.held in
      subst (λ f. square_of (unsigned_abs (value_of h (corners_of h f) (place_of_node h v)))
      ≤ square_of (deviation_of h v) * norm2_of (normal_of h (corners_of h f))) same
      (within_more (value_of h (corners_of h (face_of under)) (place_of_node h v))
      (norm2_of (normal_of h (corners_of h (face_of under))))
      (plane_deviation_of h v) (deviation_of h v) (planes_below_deviation h shape v l) near)

  planes_within : (v : ℕ) → v < node_count h → (view : View) (tol : ℕ)
      → ((e : ℕ) → fits v e (deviation_of h v) view tol) → IsNearPlanes h view tol v
  planes_within v l view tol fine e c = value_fits _ _ _ _ _ (plane_near v e l c) (fine e c)

  within_by : (m : Measure) (v : ℕ) → v < node_count h → (view : View) (tol : ℕ)
      → ((e : ℕ) → fits v e (size_of m (bounded h v)) view tol) → IsWithin m h view tol v
  within_by measures.Error = leaves_within
  within_by measures.Deviation = planes_within

  within : (v : ℕ) → v < node_count h → (view : View) (tol : ℕ) → LooksWithin (bounded h v) view tol
      → IsWithin view.measure h view tol v
  within v l view tol fine =
      within_by view.measure v l view tol
      (λ e c. fine (normal_of h (corners_of h (face_of e))) (leaf_place h (from_leaf h e))
      (corner v e l c))

  -- which side is seen is told of all nodes
  one_sided : (m : Measure) (v : ℕ) → sees_both m (bounded h v) ≡ false
      → (m ≡ measures.Error) ⊎ (has_border h ≡ false)
  one_sided measures.Error v one = inl refl
  one_sided measures.Deviation v one = inr one

  pub unwanted_for_a_reason : (view : View) (v : ℕ) → v < node_count h → is_wanted h view v ≡ false
      → IsBehind h view v ⊎ ((IsTurnedAway h view v × IsOneSided h view) ⊎ IsTiny h view v)
  unwanted_for_a_reason view v l e =
      elim (reasons (bounded h v) view e) [
        | inl (f, in_view, behind) ↦
            inl (
              f,
              in_view,
              λ s c. behind (normal_of h (corners_of h (face_of s)))
                  (leaf_place h (from_leaf h s)) (corner v s l c),
            )
        | inr other ↦ elim other [
          | inl (away, one) ↦
              inr (inl (
                λ s c. away (normal_of h (corners_of h (face_of s)))
                    (leaf_place h (from_leaf h s)) (corner v s l c),
                one_sided view.measure v one,
              ))
          | inr tiny ↦ inr (inr (
            within v l view view.tol tiny.0,
            elim tiny.1 [
              | inl fine ↦ inl (within v l view view.sil fine)
              | inr to ↦ inr
                  (λ s c. to (normal_of h (corners_of h (face_of s))) (leaf_place h (from_leaf h s))
                  (corner v s l c))
            ],
          ))
        ]
      ]

pub one_tolerance : (h : Hierarchy) (view : View) (v : ℕ) → view.sil ≡ view.tol →
    let b = bounded h v in
    is_wanted h view v
    ≡ (not (is_outside_any view.planes b.place b.radius) && may_be_seen b view && looks_large b view
    view.tol)
one_tolerance h view v same = grind (arith, common_steps, plain)
