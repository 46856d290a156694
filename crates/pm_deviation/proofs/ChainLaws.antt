-- The nodes above a leaf are a chain: the one above a node has a lower number and no fewer leaves,
-- and none of them has a number between.
use Rattle.std.proofs.Common.{◌≡◌, ℕ, zero, suc, ◌+◌, ◌<◌, ◌≤◌, length, inl, inr, refl, arith}
use Rattle.std.proofs.lemmas.Grind.{common_steps}
use Rattle.std.proofs.lemmas.Bool.{cases_lt}
use Rattle.pm_forest.specs.Forest.{Hierarchy, record_count, node_count, leaf_count, s_of, t_of}
use Rattle.pm_forest.specs.Forest.{Holds, Makes, HasForestShape}
use Rattle.pm_forest.specs.Fronts.{every}
use Rattle.pm_forest.specs.Tables.{leaf_node_of}
use Rattle.pm_forest.proofs.Nodes.{holds-s_from_t, holds-s_from_u, not_both, has_maker}
use Rattle.pm_forest.proofs.Nodes.{interval_of-t, interval_of-u}
use Rattle.pm_forest.proofs.Ancestors.{every-front, ancestor-at, ancestor-mono, holds-ancestor_of}
use Rattle.pm_forest.proofs.Ancestors.{place-s, place-after, deep}
use Rattle.pm_deviation.specs.Farthest.{leaves_under}

module _ (h : Hierarchy) (shape : HasForestShape h) (x : ℕ) (x_lt : x < leaf_count h) where
  -- The leaf is under one root.
  pub one_root : (v w : ℕ) → v < length h.roots → w < length h.roots → Holds h v x → Holds h w x
      → v ≡ w
  one_root v w a b e f =
      grind (arith, common_steps, ancestor-at h shape every (every-front h) 0, every-front h)

  -- The node that a record splits is above its children.
  pub parent_holds : (k v : ℕ) → k < record_count h → Makes h k v → Holds h v x
      → Holds h (s_of h k) x
  parent_holds k v l makes e = grind (arith, common_steps, holds-s_from_t, holds-s_from_u)

  -- Of the two children of a record one is above the leaf.
  one_child : (k v w : ℕ) → k < record_count h → Makes h k v → Makes h k w → Holds h v x
      → Holds h w x → v ≡ w
  one_child k v w l a b e f = grind (arith, common_steps, not_both)

  -- Of the nodes above the leaf its own has the greatest number.
  pub highest : (v : ℕ) → v < node_count h → Holds h v x → v ≤ leaf_node_of h x
  highest v l e =
      let w = leaf_node_of h x in
      let f = holds-ancestor_of h shape every x x_lt in
      elim (cases_lt w v) [
        | inr a ↦ a
        | inl a ↦
            elim (cases_lt v (length h.roots)) [
              | inl b ↦ (let same = one_root v w b (omega arith) e f in omega arith)
              | inr b ↦
                  let (j, j_lt, makes) = has_maker h v (record_count h) b l in
                  let d = deep h shape every (every-front h) j x j_lt x_lt
                  (parent_holds j v j_lt makes e) refl in
                  let same = one_child j v (t_of h j) j_lt makes (inl refl) e in
                  elim makes [
                    | inl c ↦ omega arith
                    | inr c ↦ grind (arith, common_steps)
                  ]
            ]
      ]

  -- A node with a lower number than a child has none above that of the child's parent.
  pub below_parent : (k v w : ℕ) → k < record_count h → v < node_count h → Makes h k w → Holds h w x
      → Holds h v x → v < w → v ≤ s_of h k
  below_parent k v w l m makes_w e f a =
      let up = parent_holds k w l makes_w e in
      elim (cases_lt (s_of h k) v) [
        | inr b ↦ b
        | inl b ↦
            elim (cases_lt v (length h.roots)) [
              | inl c ↦ (let same = one_root v (s_of h k) c (omega arith) f up in omega arith)
              | inr c ↦
                  let (j, j_lt, makes) = has_maker h v (record_count h) c m in
                  elim (cases_lt j k) [
                    | inl d ↦
                        let at_k = place-s h shape k x l up in
                        let after_j =
                        place-after h shape j x j_lt x_lt (parent_holds j v j_lt makes f) in
                        let mono = ancestor-mono h shape every (suc j) k x d x_lt in
                        let same = one_child j v (t_of h j) j_lt makes (inl refl) f in
                        elim makes [
                          | inl g ↦ omega arith
                          | inr g ↦ grind (arith, common_steps)
                        ]
                    | inr d ↦
                        let same = one_child k v w l in
                        elim makes_w [
                          | inl p ↦ elim makes [ inl q ↦ omega arith | inr q ↦ omega arith ]
                          | inr p ↦ grind (arith, common_steps)
                        ]
                  ]
            ]
      ]

  -- A child has fewer leaves than its parent.
  fewer : (k w : ℕ) → k < record_count h → Makes h k w
      → leaves_under h w ≤ leaves_under h (s_of h k)
  fewer k w l makes = let i = shape.width k l in elim makes [
    | inl is ↦ (rw (is, interval_of-t h shape k l) (omega arith))
    | inr is ↦ (rw (is, interval_of-u h shape k l) (omega arith))
  ]

  narrower_in : (n v w : ℕ) → v ≤ w → w ≤ v + n → w < node_count h → Holds h v x → Holds h w x
      → leaves_under h w ≤ leaves_under h v
  narrower_in zero v w a b l e f = let is : w ≡ v = omega arith in (rw is (omega arith))
  narrower_in (suc n) v w a b l e f = elim (cases_lt v w) [
    | inr c ↦ (let is : w ≡ v = omega arith in (rw is (omega arith)))
    | inl c ↦
        elim (cases_lt w (length h.roots)) [
          | inl d ↦ (let same = one_root v w (omega arith) d e f in absurd (omega arith))
          | inr d ↦
              let (k, k_lt, makes) = has_maker h w (record_count h) d l in
              let p = below_parent k v w k_lt (omega arith) makes f e c in
              let older = shape.older k k_lt in
              let low : s_of h k < w = elim makes [ inl g ↦ omega arith | inr g ↦ omega arith ] in
              let rest = narrower_in n v (s_of h k) p (omega arith) (omega arith) e
              (parent_holds k w k_lt makes f) in
              let one = fewer k w k_lt makes in
              omega arith
        ]
  ]

  -- Of two nodes above the leaf the one with the greater number has no more leaves.
  pub narrower : (v w : ℕ) → v ≤ w → w < node_count h → Holds h v x → Holds h w x
      → leaves_under h w ≤ leaves_under h v
  narrower v w a l e f = narrower_in w v w a (omega arith) l e f
