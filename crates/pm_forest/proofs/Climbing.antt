-- The climb to an ancestor. It begins at the leaf's node in the full front, and goes from a child
-- of a record that isn't split to the node of that record. It ends at a root or at a child of a
-- split record, and that is the leaf's ancestor.
use Rattle.std.proofs.Common.{◌≡◌, ℕ, suc, ◌<◌, ◌≤◌, Bool, true, false, Some, None, length, inl}
use Rattle.std.proofs.lemmas.Grind.{common_steps}
use Rattle.std.proofs.Common.{inr, refl, arith}
use Rattle.std.proofs.lemmas.Bool.{cases_lt}
use Rattle.pm_base.proofs.Search.{option_cases}
use Rattle.pm_forest.specs.Forest.{Hierarchy, record_count, node_count, leaf_count, s_of, t_of}
use Rattle.pm_forest.specs.Forest.{Holds, Makes, maker_of, HasForestShape}
use Rattle.pm_forest.specs.Fronts.{IsFront, made_in, ancestor_of, every}
use Rattle.pm_forest.proofs.Nodes.{holds-s_from_t, holds-s_from_u, not_both, has_maker}
use Rattle.pm_forest.proofs.Nodes.{maker_of-makes, maker_of-none, maker_of-lt}
use Rattle.pm_forest.proofs.Ancestors.{every-front, ancestor-lt, ancestor-at, ancestor-mono}
use Rattle.pm_forest.proofs.Ancestors.{holds-ancestor_of, place-s, place-after, deep, shallow}

module _ (h : Hierarchy) (shape : HasForestShape h) (x : ℕ) (x_lt : x < leaf_count h) where
  -- The leaf is below one root.
  one_root : (v w : ℕ) → v < length h.roots → w < length h.roots → Holds h v x → Holds h w x → v ≡ w
  one_root v w a b e f =
      grind (arith, common_steps, ancestor-at h shape every (every-front h) 0, every-front h)

  -- The node that a record splits is above its children.
  parent_holds : (k v : ℕ) → k < record_count h → Makes h k v → Holds h v x → Holds h (s_of h k) x
  parent_holds k v l makes e = grind (arith, common_steps, holds-s_from_t, holds-s_from_u)

  -- Of the two children of a record one is above the leaf.
  one_child : (k v w : ℕ) → k < record_count h → Makes h k v → Makes h k w → Holds h v x
      → Holds h w x → v ≡ w
  one_child k v w l a b e f = grind (arith, common_steps, not_both)

  -- Of the nodes above the leaf the full front's has the greatest number,
  highest : (v : ℕ) → v < node_count h → Holds h v x → v ≤ ancestor_of h every x
  highest v l e =
      let w = ancestor_of h every x in
      let f = holds-ancestor_of h shape every x x_lt in
      elim (cases_lt w v) [
        | inr a ↦ a
        | inl a ↦
            elim (cases_lt v (length h.roots)) [
              | inl b ↦ (let same = one_root v w b (omega arith) e f in omega arith)
              | inr b ↦
                  let (j, j_lt, makes) = has_maker h v (record_count h) b l in
                  let d = deep h shape every (every-front h) j x j_lt x_lt
                  (parent_holds j v j_lt makes e) refl in
                  let same = one_child j v (t_of h j) j_lt makes (inl refl) e in
                  elim makes [
                    | inl c ↦ omega arith
                    | inr c ↦ grind (arith, common_steps)
                  ]
            ]
      ]

  -- and those whose numbers are above that of a record's node are among its children or later
  -- nodes.
  later_than : (k v : ℕ) → k < record_count h → v < node_count h → Holds h (s_of h k) x
      → Holds h v x → s_of h k < v → t_of h k ≤ v
  later_than k v l m e f a =
      elim (cases_lt v (length h.roots)) [
        | inl b ↦ (let same = one_root v (s_of h k) b (omega arith) f e in absurd (omega arith))
        | inr b ↦
            let (j, j_lt, makes) = has_maker h v (record_count h) b m in
            elim (cases_lt j k) [
              | inl c ↦
                  let at_k = place-s h shape k x l e in
                  let after_j = place-after h shape j x j_lt x_lt (parent_holds j v j_lt makes f) in
                  let mono = ancestor-mono h shape every (suc j) k x c x_lt in
                  let same = one_child j v (t_of h j) j_lt makes (inl refl) f in
                  elim makes [
                    | inl d ↦ absurd (omega arith)
                    | inr d ↦ grind (arith, common_steps)
                  ]
              | inr c ↦ elim makes [ inl d ↦ omega arith | inr d ↦ omega arith ]
            ]
      ]

-- Where the climb to the ancestor of leaf x stands: at a node above the leaf, and not yet past the
-- ancestor.
pub record IsAbove (h : Hierarchy) (T : ℕ → Bool) (x v : ℕ) : Type 0 where
  pub number : v < node_count h
  pub holds : Holds h v x
  pub low : ancestor_of h T x ≤ v

module _ (h : Hierarchy) (shape : HasForestShape h) (T : ℕ → Bool) (x : ℕ) (x_lt : x < leaf_count h)
  where
    pub climb_start : IsAbove h T x (ancestor_of h every x)
    climb_start = grind (arith, common_steps, ancestor-lt, highest, holds-ancestor_of)

    pub climb_on : (v k : ℕ) → IsAbove h T x v → maker_of h v ≡ Some k → T k ≡ false
        → IsAbove h T x (s_of h k)
    climb_on v k above made unsplit =
        grind (
          arith,
          common_steps,
          ancestor-lt h shape T (record_count h) x x_lt,
          holds-ancestor_of h shape T x x_lt,
          later_than h shape x x_lt k (ancestor_of h T x),
          maker_of-lt h k v above.number made,
          maker_of-makes h k v made,
          parent_holds h shape x x_lt k v,
          shallow h shape T k x,
        )

    -- Each step goes to a smaller number, so that the climb ends.
    pub climb_lowers : (v k : ℕ) → IsAbove h T x v → maker_of h v ≡ Some k → s_of h k < v
    climb_lowers v k above made =
        let older = shape.older k (maker_of-lt h k v above.number made) in
        elim (maker_of-makes h k v made) [ inl a ↦ omega arith | inr a ↦ omega arith ]

    pub climb_root : (v : ℕ) → IsAbove h T x v → maker_of h v ≡ None → v ≡ ancestor_of h T x
    climb_root v above none =
        let l = maker_of-none h v none in
        one_root h shape x x_lt v (ancestor_of h T x) l (omega (arith, above.low)) above.holds
        (holds-ancestor_of h shape T x x_lt)

    pub climb_end : IsFront h T → (v k : ℕ) → IsAbove h T x v → maker_of h v ≡ Some k → T k ≡ true
        → v ≡ ancestor_of h T x
    climb_end front v k above made split =
        grind (
          arith,
          common_steps,
          deep h shape T front k x,
          holds-ancestor_of h shape T x x_lt,
          maker_of-lt h k v above.number made,
          maker_of-makes h k v made,
          one_child h shape x x_lt k v,
          parent_holds h shape x x_lt k v,
        )

    -- The two ends in one: no maker, or one that is split.
    pub climb_done : IsFront h T → (v : ℕ) → IsAbove h T x v → made_in T (maker_of h v) ≡ true
        → v ≡ ancestor_of h T x
    climb_done front v above made = grind (arith, common_steps, climb_end, climb_root, option_cases)
