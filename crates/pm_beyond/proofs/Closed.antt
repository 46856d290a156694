-- Closed sets of records: what is needed isn't collapsible, legal moves keep a set closed, and the
-- two recorded neighbours of a face meet.
use Rattle.std.proofs.Common.{length, ◌↔◌, ◌≡◌, ◌≢◌, ℕ, suc, ◌*◌, ◌<◌, Bool, true, false, Option}
use Rattle.std.proofs.lemmas.Grind.{common_steps}
use Rattle.std.proofs.Common.{Some, ◌⊎◌, inl, inr, refl, sym, ap, ◌∙◌, subst, arith}
use Rattle.std.proofs.lemmas.Bool.{cases_lt, cases_eq, both_ways}
use Rattle.std.proofs.lemmas.Option.{same_Some}
use Rattle.pm_base.specs.Sides.{face_of, next}
use Rattle.pm_base.proofs.Search.{option_cases}
use Rattle.pm_base.proofs.Sides.{next-next-next}
use Rattle.pm_forest.specs.Forest.{Hierarchy, record_count, leaf_count, s_of, t_of, u_of, Makes}
use Rattle.pm_forest.specs.Forest.{Holds}
use Rattle.pm_forest.specs.Fronts.{IsActive, ancestor_of, below, with, without}
use Rattle.pm_forest.specs.Faces.{face_count, revealed_by, from_leaf, to_leaf, inner_of, record_of}
use Rattle.pm_forest.specs.Faces.{IsForest}
use Rattle.pm_forest.specs.Rules.{HasShape}
use Rattle.pm_forest.proofs.Nodes.{has_maker, holds-s_from_t, holds-s_from_u, makes_once}
use Rattle.pm_forest.proofs.Ancestors.{holds-ancestor_of, ancestor_of-unique, deep, below-front}
use Rattle.pm_forest.proofs.Ancestors.{last_child-active}
use Rattle.pm_forest.proofs.OneStep.{with-cases, with-same, with-from, without-parts, without-from}
use Rattle.pm_forest.proofs.Sides.{inner-face, three_sides}
use Rattle.pm_forest.proofs.Ends.{t_first, u_first, next-lt, inner_ends}
use Rattle.pm_forest.proofs.Shown.{shown_record, shown_base}
use Rattle.pm_forest.proofs.ShapeLaws.{shape_of_nodes, shape_is_forest}
use Rattle.pm_beyond.specs.Walks.{IsInner, IsOuter, Reaches, Beyond, across, expected}
use Rattle.pm_beyond.specs.Valid.{IsValid}
use Rattle.pm_beyond.specs.Moves.{Needs, as_maker, as_neighbour, IsClosed, MaySplit, MayCollapse}
use Rattle.pm_beyond.proofs.Across.{across-face, across-is_outer, across-lt}
use Rattle.pm_beyond.proofs.Reaching.{kept_at_side, fewer, append, reaches-lt, back, Beyond-unique}
use Rattle.pm_beyond.proofs.Reaching.{none_between, some_between, first_shown}
use Rattle.pm_beyond.proofs.Carried.{ends-carried}
use Rattle.pm_beyond.proofs.Neighbours.{expected-older, expected-lt}
use Rattle.pm_beyond.proofs.Standing.{may_collapse-from, forest_of, as_told, needs-older}
use Rattle.pm_beyond.proofs.Standing.{dropped-parts, closed-front, stops_there, as_expected}
use Rattle.pm_beyond.proofs.Standing.{greater, standing, unneeded-standing}

-- One end of an outer side is under t or u.
data OuterEnd (h : Hierarchy) (j e : ℕ) : Type 0 where
  from_end : (v : ℕ) → Makes h j v → Holds h v (from_leaf h e) → OuterEnd h j e
  to_end : (v : ℕ) → Makes h j v → Holds h v (to_leaf h e) → OuterEnd h j e

outer_end : (h : Hierarchy) → IsForest h → (j e : ℕ) → e < 3 * face_count h → IsOuter h j e
    → OuterEnd h j e
outer_end h shape j e l outer =
    let i = inner_of h j (face_of e) in
    let ends = inner_ends h shape j (face_of e) (omega arith) outer.0 in
    elim (three_sides e i (sym (inner-face h j (face_of e)))) [
      | inl a ↦ absurd (outer.1 a)
      | inr b ↦
          elim b [
            | inl a ↦
                elim ends [
                  | t_first p q ↦ from_end (u_of h j) (inr refl) (rw a q)
                  | u_first p q ↦ from_end (t_of h j) (inl refl) (rw a q)
                ]
            | inr a ↦
                let turn : next e ≡ i = ap next a ∙ next-next-next i in
                elim ends [
                  | t_first p q ↦ to_end (t_of h j) (inl refl) (rw turn p)
                  | u_first p q ↦ to_end (u_of h j) (inr refl) (rw turn p)
                ]
          ]
    ]

module _ (h : Hierarchy) (valid : IsValid h) (T : ℕ → Bool) (closed : IsClosed h T) where
  -- What is needed may not be collapsed: at the inner side of k's face,
  inner_blocks : (k j b e : ℕ) → j < record_count h → T j ≡ true → k < j → b < 3 * face_count h
      → e < 3 * face_count h → IsInner h k b → IsOuter h j e → Reaches h (below (suc j)) b (Some e)
      → IsActive h T (t_of h k) → IsActive h T (u_of h k) → ⊥
  inner_blocks k j b e j_lt f m b_lt e_lt inner outer w t_active u_active =
      let tree = forest_of h valid in
      let shape = tree.forest in
      let E = below (suc j) in
      let ends = ends-carried h tree E e w refl in
      let here_deep : (x v : ℕ) → x < leaf_count h → Makes h k v → IsActive h T v → Holds h v x
      → Holds h (s_of h j) x → ⊥ = λ x v x_lt makes active p q.
      let r = deep h shape T (closed-front h T closed) j x j_lt x_lt q f in
      let is = ancestor_of-unique h shape T (closed-front h T closed) v x active p in
      elim makes [ inl a ↦ omega arith | inr a ↦ omega arith ] in
      let touches : (x y v : ℕ) → x < leaf_count h → Makes h j v → Holds h v y
      → ancestor_of h E x ≡ ancestor_of h E y → Holds h (s_of h j) x = λ x y v x_lt makes p q.
      let is = ancestor_of-unique h shape E (below-front h shape (suc j)) v y
      (last_child-active h shape j v j_lt makes) p in
      let held = subst (λ n. Holds h n x) (q ∙ is) (holds-ancestor_of h shape E x x_lt) in
      elim makes [
        | inl a ↦ holds-s_from_t h shape j x j_lt (subst (λ n. Holds h n x) a held)
        | inr a ↦ holds-s_from_u h shape j x j_lt (subst (λ n. Holds h n x) a held)
      ] in
      let from_lt = tree.faces.leaves b b_lt in
      let to_lt = tree.faces.leaves (next b) (next-lt h tree b b_lt) in
      let is_b = sym inner.1 in
      let refute : (x : ℕ) → (x ≡ from_leaf h b) ⊎ (x ≡ to_leaf h b) → Holds h (s_of h j) x → ⊥ =
      λ x which q.
      elim (inner_ends h tree k (face_of b) (omega arith) inner.0) [
        | t_first p p' ↦
            elim which [
              | inl a ↦ here_deep x (t_of h k) (rw a from_lt) (inl refl) t_active
                  (rw (a, inner.1) p) q
              | inr a ↦ here_deep x (u_of h k) (rw a to_lt) (inr refl) u_active (rw (a, inner.1) p')
                  q
            ]
        | u_first p p' ↦
            elim which [
              | inl a ↦ here_deep x (u_of h k) (rw a from_lt) (inr refl) u_active
                  (rw (a, inner.1) p) q
              | inr a ↦ here_deep x (t_of h k) (rw a to_lt) (inl refl) t_active (rw (a, inner.1) p')
                  q
            ]
      ] in
      elim (outer_end h tree j e e_lt outer) [
        | from_end v makes p ↦
            refute (to_leaf h b) (inr refl)
            (touches (to_leaf h b) (from_leaf h e) v to_lt makes p (sym ends.0))
        | to_end v makes p ↦
            refute (from_leaf h b) (inl refl)
            (touches (from_leaf h b) (to_leaf h e) v from_lt makes p (sym ends.1))
      ]

  -- where that would bring two leaves together that a greater record has parted, and beyond its
  -- outer sides.
  pub needed-blocks : (k j : ℕ) → k < record_count h → MayCollapse h T k → j < record_count h
      → T j ≡ true → Needs h j k → ⊥
  needed-blocks k j k_lt may l f (as_maker m) =
      elim m [ inl q ↦ may.t_active.1 j l f q | inr q ↦ may.u_active.1 j l f q ]
  needed-blocks k j k_lt may l f (as_neighbour e b e_lt outer q r) =
      let once = valid.no_side_twice in
      let shape = forest_of h valid in
      let E = below (suc j) in
      let m = needs-older h valid.shape j k l (as_neighbour e b e_lt outer q r) in
      let v = as_told h valid j e e_lt outer.0 in
      let b_lt = expected-lt h valid.shape j e b e_lt outer q in
      let u = back h shape once E b e_lt v.reaches q in
      elim (cases_eq b (inner_of h k (face_of b))) [
        | inl inner ↦ inner_blocks k j b e l f m b_lt e_lt (r, inner) outer u may.t_active
            may.u_active
        | inr other ↦
            let now = may.as_recorded b b_lt (r, other) in
            elim (first_shown h shape once E T u) [
              | none_between z ↦
                  let is = Beyond-unique h shape once T b (expected h b) (Some e) now
                  (record { reaches = z; stops = shown_record h T e j outer.0 ∙ f }) in
                  let low = expected-older h valid.shape k b e j b_lt (r, other) is outer.0 in
                  omega arith
              | some_between c z d s y ↦
                  let is = Beyond-unique h shape once T b (expected h b) (Some c) now
                  (record { reaches = y; stops = s }) in
                  let p = dropped-parts h j c (reaches-lt h shape once E c z refl) d in
                  let low = expected-older h valid.shape k b c p.0 b_lt (r, other) is p.1 in
                  omega arith
            ]
      ]

  -- A blocked collapse is blocked by a face of a greater record of the set.
  pub blocked-by_greater : (k e : ℕ) (r : Option ℕ) → k < record_count h → T k ≡ true
      → e < 3 * face_count h → IsOuter h k e → Beyond h T e r → r ≢ expected h e
      → (c j : ℕ) × (r ≡ Some c) × (record_of h c ≡ Some j) × (T j ≡ true) × (k < j)
  blocked-by_greater k e r k_lt f l outer beyond n =
      elim (standing h valid T closed k e k_lt f l outer.0) [
        | as_expected b ↦
            absurd (n (Beyond-unique h (forest_of h valid) valid.no_side_twice T e r (expected h e)
            beyond b))
        | greater c j b q g m w ↦ (
          c,
          j,
          Beyond-unique h (forest_of h valid) valid.no_side_twice T e r (Some c) beyond b,
          q,
          g,
          m,
        )
      ]

  -- What a record that may be split needs is in the set.
  present_need : (k i : ℕ) → MaySplit h T k → Needs h k i → T i ≡ true
  present_need k i may (as_maker m) = grind (arith, common_steps, makes_once)
  present_need k i may (as_neighbour e b l outer q r) =
      sym (shown_record h T b i r)
      ∙ sym (kept_at_side h (forest_of h valid) T (closed-front h T closed) b
      (expected-lt h valid.shape k e b l outer q)) ∙ may.present e b l outer q

  -- Legal moves keep the set closed.
  pub split-closed : (k : ℕ) → k < record_count h → MaySplit h T k → IsClosed h (with T k)
  split-closed k l may j i m e needs =
      elim (with-cases T k j e) [
        | inr f ↦ with-from T k i (closed j i m f needs)
        | inl is ↦ with-from T k i (present_need k i may (subst (λ n. Needs h n i) is needs))
      ]

  pub collapse-closed : (k : ℕ) → k < record_count h → MayCollapse h T k → IsClosed h (without T k)
  collapse-closed k l may j i m e needs =
      let p = without-parts T k j e in
      without-from T k i (λ is. needed-blocks k j l may m p.1 (subst (Needs h j) is needs))
      (closed j i m p.1 needs)

-- Four faces are enough: where k may be split, the two recorded neighbours of each of its faces
-- stand beyond each other.
pub four_faces : (h : Hierarchy) → IsValid h → (T : ℕ → Bool) → IsClosed h T → (k o p b : ℕ)
    → k < record_count h → MaySplit h T k → o < 3 * face_count h → IsOuter h k o
    → across h o ≡ Some p → expected h o ≡ Some b → Beyond h T b (expected h p)
four_faces h valid T closed k o p b l may o_lt outer x q =
    let once = valid.no_side_twice in
    let shape = forest_of h valid in
    let W = with T k in
    let W_closed = split-closed h valid T closed k l may in
    let free : (j : ℕ) → j < record_count h → W j ≡ true → Needs h j k → ⊥ = λ j m e needs.
    elim (with-cases T k j e) [
      | inl is ↦ (let older = needs-older h valid.shape j k m needs in omega arith)
      | inr f ↦ both_ways _ may.unsplit (closed j k m f needs)
    ] in
    let p_lt = across-lt h o p o_lt x in
    let p_record : record_of h p ≡ Some k =
    ap (λ f. revealed_by h f) (across-face h o p x) ∙ outer.0 in
    let (i, _, p_outer') = across-is_outer h o p x in
    let same : i ≡ k = same_Some i k (sym p_outer'.0 ∙ p_record) in
    let p_outer : IsOuter h k p = subst (λ n. IsOuter h n p) same p_outer' in
    let beyond_o = unneeded-standing h valid W W_closed k o l (with-same T k) o_lt outer.0 free in
    let beyond_p = unneeded-standing h valid W W_closed k p l (with-same T k) p_lt p_record free in
    let to_o = fewer h W T (with-from T k) (back h shape once W b o_lt beyond_o.reaches q) in
    let from_p = fewer h W T (with-from T k) beyond_p.reaches in
    record {
      reaches = append h shape once T to_o refl (shown_record h T o k outer.0 ∙ may.unsplit) x
          from_p;
      stops = stops_there h T (expected h p)
          (λ c e. sym (kept_at_side h shape T (closed-front h T closed) c
          (expected-lt h valid.shape k p c p_lt p_outer e)) ∙ may.present p c p_lt p_outer e);
    }

-- A record that isn't split may be split where all that it needs is.
pub may_split-from : (h : Hierarchy) → HasShape h → (T : ℕ → Bool) → IsClosed h T → (k : ℕ)
    → k < record_count h → T k ≡ false → ((i : ℕ) → Needs h k i → T i ≡ true) → MaySplit h T k
may_split-from h shape T closed k l unsplit there =
    let nodes = shape_of_nodes h shape in
    let older = nodes.older k l in
    record {
      active = (
        elim (cases_lt (s_of h k) (length h.roots)) [
          | inl a ↦ inl a
          | inr a ↦ (let (j, b, c) = has_maker h (s_of h k) k a older in
              inr (j, omega arith, there j (as_maker c), c))
        ],
        λ i i_lt f q.
            elim (cases_lt i k) [
              | inl a ↦ nodes.once i k a l q
              | inr a ↦
                  elim (cases_eq i k) [
                    | inl is ↦ both_ways _ unsplit (subst (λ j. T j ≡ true) is f)
                    | inr other ↦ nodes.once k i (omega arith) i_lt (sym q)
                  ]
            ],
      );
      unsplit = unsplit;
      present = λ s b s_lt outer q.
          kept_at_side h (shape_is_forest h shape) T (closed-front h T closed) b
          (expected-lt h shape k s b s_lt outer q)
          ∙ elim (option_cases (record_of h b)) [
            | inl r ↦ shown_base h T b r
            | inr (m, r) ↦ shown_record h T b m r ∙ there m (as_neighbour s b s_lt outer q r)
          ];
    }

-- So a split is legal exactly where the set with the record is closed,
pub may_split-closes : (h : Hierarchy) → IsValid h → (T : ℕ → Bool) → IsClosed h T → (k : ℕ)
    → k < record_count h → (MaySplit h T k) ↔ ((T k ≡ false) × IsClosed h (with T k))
may_split-closes h valid T closed k l = (
  λ may. (may.unsplit, split-closed h valid T closed k l may),
  λ (unsplit, whole).
      may_split-from h valid.shape T closed k l unsplit (λ i need.
      let older = needs-older h valid.shape k i l need in
      elim (with-cases T k i (whole k i l (with-same T k) need)) [
        | inl is ↦ absurd (omega arith)
        | inr there ↦ there
      ]),
)

-- and a collapse where the set without it is.
pub may_collapse-closes : (h : Hierarchy) → IsValid h → (T : ℕ → Bool) → IsClosed h T → (k : ℕ)
    → k < record_count h → (MayCollapse h T k) ↔ ((T k ≡ true) × IsClosed h (without T k))
may_collapse-closes h valid T closed k l = (
  λ may. (may.is_split, collapse-closed h valid T closed k l may),
  λ (is_split, whole).
      may_collapse-from h valid T closed k l is_split (λ j j_lt f need.
      let older = needs-older h valid.shape j k j_lt need in
      let other : j ≢ k = omega arith in
      (without-parts T k k (whole j k j_lt (without-from T k j other f) need)).0 refl),
)
