-- How far the line from a node's place along an axis goes before it meets the plane of a face.
use Rattle.std.proofs.Common.{◌≡◌, ℕ, zero, suc, ◌*◌, ◌/◌, ◌<◌, ◌≤◌, max, min, eqb, List, [], ◌∷◌}
use Rattle.std.proofs.Common.{map, ◌⊎◌, inl, inr, refl, sym, ap, ◌∙◌, subst, arith}
use Rattle.std.proofs.lemmas.Grind.{common_steps}
use Rattle.std.proofs.Math.Nat.{le_refl, le_trans, le_of_mul-le-mul_left, div-mul-le_self, div-zero}
use Rattle.std.specs.Prelude.{ℤ, pos, neg_ℤ, ◌+ℤ◌, ◌*ℤ◌, unsigned_abs}
use Rattle.std.specs.List.{Contains}
use Rattle.std.proofs.lemmas.Int.{unsigned_abs-mul}
use Rattle.std.proofs.lemmas.Nat.{mul-le}
use Rattle.std.proofs.lemmas.Bool.{cases_Bool, cases_lt, or_parts, eqb-false}
use borrow.Author.Differences.{ints}
use Rattle.pm_base.specs.Geometry.{dot_of, norm2_of}
use Rattle.pm_base.specs.Rounded.{root_up}
use Rattle.pm_base.specs.Sides.{face_of}
use Rattle.pm_base.proofs.Root.{root_up_is}
use Rattle.pm_forest.specs.Forest.{Hierarchy, node_count}
use Rattle.pm_forest.specs.Faces.{corners_of}
use Rattle.pm_forest.specs.Places.{place_of_node}
use Rattle.pm_forest.specs.Rules.{HasShape}
use Rattle.pm_bounds.specs.Bounds.{normal_of, error_of, greatest}
use Rattle.pm_deviation.specs.declared.axes.Axis.{Axis}
use Rattle.pm_deviation.specs.declared.axes.TheConstants.{AXES}
use Rattle.pm_deviation.specs.Spreads.{along}
use Rattle.pm_deviation.specs.Normals.{direction_of, above_zero, length_of, least_cosine, cosine_by}
use Rattle.pm_deviation.specs.Normals.{spread_of, cosine_of}
use Rattle.pm_deviation.specs.Lines.{line_cosine_of}
use Rattle.pm_deviation.specs.Deviations.{plane_deviation_of, tilted, deviation_of}
use Rattle.pm_deviation.specs.Laws.{value_of, MeetsWithin}
use Rattle.pm_deviation.proofs.CosineLaws.{one_side, side_falls, low_side, high_side}
use Rattle.pm_deviation.proofs.GrowingLaws.{is_error, farther, error_there, tilted_there}
use Rattle.pm_deviation.proofs.NearLaws.{spread_covers, planes_near}
use Rattle.pm_deviation.proofs.PartLaws.{parts_of, parts_scaled, high_length, ceil_enough}
use Rattle.pm_deviation.proofs.Products.{scaled_along}

-- Numbers alone: s / w is how far the line goes in lengths of the axis, k the product of normal and
-- axis, v the plane's value, n and u the squared lengths of normal and axis, c the cosine, d and f
-- the two deviations.

positive : (k c : ℕ) → 0 < k → 0 < c → 0 < k * k * (c * c)
positive k c p q = grind (arith, common_steps, mul-le)

gathered : (s k u c : ℕ) → k * k * (c * c) * (s * s * u) ≡ (s * k) * (s * k) * (u * (c * c))
gathered s k u c = omega arith

met : (s w k v u c : ℕ) → s * k ≡ w * v → (s * k) * (s * k) * (u * (c * c))
    ≡ (w * v) * (w * v) * (u * (c * c))
met s w k v u c e = ap (λ (t : ℕ). t * t * (u * (c * c))) e

nearer : (w v d n u c : ℕ) → v * v ≤ d * d * n
    → (w * v) * (w * v) * (u * (c * c)) ≤ (w * w * (d * d)) * (c * c * (n * u))
nearer w v d n u c p =
    omega (
      arith,
      mul-le (w * w * (u * (c * c))) (v * v) (w * w * (u * (c * c))) (d * d * n)
          (le_refl _) p,
    )

slanted : (w d k c n u : ℕ) → c * c * (n * u) ≤ (16384 * k) * (16384 * k)
    → (w * w * (d * d)) * (c * c * (n * u)) ≤ (w * w * (k * k)) * ((16384 * d) * (16384 * d))
slanted w d k c n u p =
    omega (
      arith,
      mul-le (w * w * (d * d)) (c * c * (n * u)) (w * w * (d * d))
          ((16384 * k) * (16384 * k)) (le_refl _) p,
    )

wide : (w d k c f : ℕ) → 16384 * d ≤ f * c
    → (w * w * (k * k)) * ((16384 * d) * (16384 * d)) ≤ k * k * (c * c) * ((w * f) * (w * f))
wide w d k c f p =
    omega (
      arith,
      mul-le (w * w * (k * k)) ((16384 * d) * (16384 * d)) (w * w * (k * k))
          ((f * c) * (f * c)) (le_refl _) (mul-le (16384 * d) (16384 * d) (f * c) (f * c) p p),
    )

tilts_bound : (s w k v d c f n u : ℕ) → 0 < k → 0 < c → s * k ≡ w * v → v * v ≤ d * d * n
    → c * c * (n * u) ≤ (16384 * k) * (16384 * k)
    → 16384 * d ≤ f * c → s * s * u ≤ (w * f) * (w * f)
tilts_bound s w k v d c f n u k0 c0 e p q r =
    le_of_mul-le-mul_left {m = s * s * u} {n = (w * f) * (w * f)} {k = k * k * (c * c)}
    (subst (λ (t : ℕ). t ≤ k * k * (c * c) * ((w * f) * (w * f))) (sym (gathered s k u c))
    (subst (λ (t : ℕ). t ≤ k * k * (c * c) * ((w * f) * (w * f))) (sym (met s w k v u c e))
    (le_trans (nearer w v d n u c p) (le_trans (slanted w d k c n u q) (wide w d k c f r)))))
    (positive k c k0 c0)

-- c l is at most 16,384 p, and r p at most 16,384 k: the cosine of the axis with the normal is at
-- least c parts
steep : (c l p r k n u : ℕ) → c * l ≤ 16384 * p → r * p ≤ 16384 * k → n ≤ r * r
    → 268435456 * u ≤ l * l → c * c * (n * u) ≤ (16384 * k) * (16384 * k)
steep c l p r k n u a b far long =
    let one : (r * (c * l)) * (r * (c * l)) ≤ (268435456 * k) * (268435456 * k) =
    (let half : r * (c * l) ≤ 268435456 * k =
    omega (arith, mul-le r (c * l) r (16384 * p) (le_refl r) a) in
    mul-le (r * (c * l)) (r * (c * l)) (268435456 * k) (268435456 * k) half half) in
    let two : (c * c) * (n * (268435456 * u)) ≤ (c * c) * ((r * r) * (l * l)) =
    mul-le (c * c) (n * (268435456 * u)) (c * c) ((r * r) * (l * l)) (le_refl (c * c))
    (mul-le n (268435456 * u) (r * r) (l * l) far long) in
    omega (arith, one, two)

some_product : (c l p r k : ℕ) → 0 < c → 0 < l → c * l ≤ 16384 * p → r * p ≤ 16384 * k → 0 < r
    → 0 < k
some_product c l p r k pc pl a b pr = grind (arith, common_steps, mul-le)

abs_zero : (x y : ℤ) → x +ℤ y ≡ pos 0 → unsigned_abs y ≡ unsigned_abs x
abs_zero x y e = omega (arith, ints)

-- a greatest number that isn't 0 is one of the list
greatest_has : {X : Type 0} (g : X → ℕ) (xs : List X) → 0 < greatest (map g xs)
    → (x : X) × Contains xs x × (g x ≡ greatest (map g xs))
greatest_has g [] l = absurd (omega arith)
greatest_has g (x ∷ xs) l = elim (cases_lt (g x) (greatest (map g xs))) [
  | inl less ↦
      let (y, (i, below, at), is) = greatest_has g xs (omega arith) in
      (y, (suc i, omega arith, at), is ∙ omega arith)
  | inr more ↦ (x, (zero, omega arith, refl), omega arith)
]

max_times : (r a b k : ℕ) → r * a ≤ k → r * b ≤ k → r * max a b ≤ k
max_times r a b k p q = grind (arith, common_steps)

quotient_some : (m l c : ℕ) → m / l ≡ c → 0 < c → 0 < l
quotient_some m zero c is some = absurd (omega (arith, sym (div-zero m) ∙ is))
quotient_some m (suc l) c is some = omega arith

quotient_times : (m l c : ℕ) → m / l ≡ c → c * l ≤ m
quotient_times m l c is = subst (λ (q : ℕ). q * l ≤ m) is (div-mul-le_self m l)

root_some : (r n : ℕ) → 0 < n → n ≤ r * r → 0 < r
root_some zero n some h = absurd (omega arith)
root_some (suc r) n some h = omega arith

max_first : (a b : ℕ) → a ≤ max a b
max_first a b = omega arith

min_left : (a b : ℕ) → a < b → min a b ≡ a
min_left a b h = omega arith

min_right : (a b : ℕ) → b ≤ a → min a b ≡ b
min_right a b h = omega arith

module _ (h : Hierarchy) (shape : HasShape h) (v : ℕ) (l : v < node_count h) where
  abbrev planes : ℕ
  planes = plane_deviation_of h v

  -- along one axis, whose cosine is c
  meets : (u : Axis) (c d : ℕ) → 0 < c → cosine_by u (spread_of h u v) ≡ c → 16384 * planes ≤ d * c
      → MeetsWithin h v u d
  meets u c d some is enough e w s side held zero_there normal_there =
      let n = normal_of h (corners_of h (face_of e)) in
      let m = direction_of u in
      let value = value_of h (corners_of h (face_of e)) (place_of_node h v) in
      let k = dot_of n m in
      let p = along (parts_of n) m in
      let r = root_up (norm2_of n) in
      let far = (root_up_is (norm2_of n)).enough in
      let long = (root_up_is (268435456 * norm2_of m)).enough in
      let i = scaled_along n m r (parts_of n)
      (parts_scaled n r (high_length (norm2_of n) normal_there)) in
      let sides = max_times r (above_zero p.low) (above_zero (neg_ℤ p.high))
      (16384 * unsigned_abs k) (low_side r p.low k i.low) (high_side r p.high k i.high) in
      let (a, at, over) = spread_covers h shape e side v held normal_there u in
      let cosine : least_cosine u a ≡ c = sym (ap (cosine_by u) at) ∙ is in
      let len = quotient_some (16384 * one_side a) (length_of u) c cosine some in
      let a_side = quotient_times (16384 * one_side a) (length_of u) c cosine in
      let p_side =
      le_trans a_side
      (mul-le 16384 (one_side a) 16384 (one_side p) (le_refl 16384) (side_falls a p over)) in
      let product =
      some_product c (length_of u) (one_side p) r (unsigned_abs k) some len p_side sides
      (root_some r (norm2_of n) normal_there far) in
      let same : unsigned_abs s * unsigned_abs k ≡ w * unsigned_abs value =
      sym (unsigned_abs-mul s k) ∙ abs_zero (pos w *ℤ value) (s *ℤ k) zero_there
      ∙ unsigned_abs-mul (pos w) value in
      tilts_bound (unsigned_abs s) w (unsigned_abs k) (unsigned_abs value) planes c d (norm2_of n)
      (norm2_of m) product some same
      (planes_near h shape e side v l held)
      (steep c (length_of u) (one_side p) r (unsigned_abs k) (norm2_of n) (norm2_of m) p_side
      sides far long) enough

  axis_there : 0 < cosine_of h v → (u : Axis) × Contains AXES u
      × (cosine_by u (spread_of h u v) ≡ cosine_of h v)
  unfolding cosine_of
  axis_there some = greatest_has (λ u. cosine_by u (spread_of h u v)) AXES some

  wider : (p d e c : ℕ) → 16384 * p ≤ d * c → d ≤ e → 16384 * p ≤ e * c
  wider p d e c h q = omega (arith, h, mul-le d c e c q (le_refl c))

  pub lines_near : (deviation_of h v ≡ error_of h v)
      ⊎ ((u : Axis) × Contains AXES u × MeetsWithin h v u (deviation_of h v))
  lines_near = elim (cases_Bool (is_error h shape v)) [
    | inl e ↦ inl (error_there h shape v e)
    | inr e ↦
        let c = cosine_of h v in
        let d = farther h shape v in
        let never = or_parts (eqb c 0) (eqb (line_cosine_of h v) 0) e in
        let some : 0 < c = omega (arith, eqb-false c 0 never.0) in
        let is = tilted_there h shape v e in
        elim (cases_lt (error_of h v) d) [
          | inl less ↦ inl (is ∙ min_left (error_of h v) d less)
          | inr more ↦
              let (u, there, along_u) = axis_there some in
              inr (
                u,
                there,
                subst (λ (f : ℕ). MeetsWithin h v u f)
                    (sym (is ∙ min_right (error_of h v) d more))
                    (meets u c d some along_u
                    (wider planes (tilted planes c) d c (ceil_enough (16384 * planes) c some)
                    (max_first _ _))),
              )
        ]
  ]
