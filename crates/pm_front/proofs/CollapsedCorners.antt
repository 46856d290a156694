-- After a legal collapse the corner lists have just the corners of kept faces at each active node,
-- each once.
use Rattle.std.proofs.Common.{◌≡◌, ◌≢◌, ℕ, ◌*◌, ◌<◌, Bool, true, not, List, [], ◌++◌}
use Rattle.std.proofs.lemmas.Grind.{common_steps}
use Rattle.std.proofs.Common.{Some, inl, inr, refl, sym, ap, ◌∙◌, subst, arith}
use Rattle.std.proofs.lemmas.Bool.{or_cases, or_left, or_right, eqb-true, eq-eqb, ne_eqb}
use Rattle.std.proofs.lemmas.Bool.{cases_Bool, cases_eq, false≢true, both_ways, false_from_ne_true}
use Rattle.std.proofs.lemmas.Bool.{not-true, not_from_false, cond-true, cond-false}
use Rattle.pm_links.specs.Lists.{has, IsOnce}
use Rattle.pm_links.proofs.Members.{has-append, once-append}
use Rattle.pm_forest.specs.Forest.{Hierarchy, node_count, record_count, leaf_count, s_of, t_of}
use Rattle.pm_forest.specs.Forest.{u_of, holds, Holds, Makes}
use Rattle.pm_forest.specs.Fronts.{IsFront, IsActive, ancestor_of, without}
use Rattle.pm_forest.specs.Faces.{face_count, record_of, from_leaf, IsForest}
use Rattle.pm_forest.specs.Kept.{is_shown}
use Rattle.pm_forest.proofs.Nodes.{holds-s_from_t, holds-s_from_u, holds-u_from_s, cases_made}
use Rattle.pm_forest.proofs.Ancestors.{ancestor-lt, active-ancestor, holds-ancestor_of}
use Rattle.pm_forest.proofs.Ancestors.{ancestor_of-unique}
use Rattle.pm_forest.proofs.OneStep.{collapse-under, collapse-elsewhere}
use Rattle.pm_forest.proofs.Shown.{shown_without, shown_without-parts}
use Rattle.pm_front.specs.Corners.{listed, rest_of, collapsed_list, collapsed_lists, AreCorners}
use Rattle.pm_front.proofs.ListLaws.{has_filter-parts, has_filter-from, once-filter}
use Rattle.pm_front.proofs.NodeLists.{is_corner_of, length-by_node, each_by_node, once_by_node}
use Rattle.pm_front.proofs.NodeLists.{corner_of-parts, corner_of-from}
use Rattle.pm_sides.proofs.RecordSides.{corner_of-record, record-corner_of}

-- what each list is after a collapse
module _ (h : Hierarchy) (k : ℕ) (ls : List (List ℕ)) where
  pub collapsed-s : (v : ℕ) → v ≡ s_of h k → collapsed_list h k ls v ≡ rest_of h k ls (u_of h k)
      ++ rest_of h k ls (t_of h k)
  collapsed-s v is = cond-true _ _ _ (eq-eqb v (s_of h k) is)

  pub collapsed-child : (v : ℕ) → v ≢ s_of h k → Makes h k v → collapsed_list h k ls v ≡ []
  collapsed-child v differs made =
      grind (arith, common_steps, cond-false, cond-true, eq-eqb, ne_eqb, or_left, or_right)

  pub collapsed-other : (v : ℕ) → v ≢ s_of h k → (Makes h k v → ⊥)
      → collapsed_list h k ls v ≡ rest_of h k ls v
  collapsed-other v differs made =
      grind (arith, common_steps, cond-false, eqb-true, ne_eqb, or_cases)

module _ (h : Hierarchy) (tree : IsForest h) (T : ℕ → Bool) (front : IsFront h T) (k : ℕ)
    (k_lt : k < record_count h) (ls : List (List ℕ)) (corners : AreCorners h T ls) where
  rest-parts : (v e : ℕ) → has (rest_of h k ls v) e ≡ true → (e < 3 * face_count h)
      × (is_shown h T e ≡ true) × (ancestor_of h T (from_leaf h e) ≡ v) × (record_of h e ≢ Some k)
  rest-parts v e t =
      let p = has_filter-parts (λ g. not (is_corner_of h k g)) (listed ls v) e t in
      let q = (corners.each v e).0 p.1 in (
        q.0,
        q.1,
        q.2,
        λ own. let r =
            record-corner_of h k e q.0 own in
            both_ways (is_corner_of h k e) (not-true (is_corner_of h k e) p.0)
            (corner_of-from h k e r.0 r.1),
      )

  rest-from : (v e : ℕ) → e < 3 * face_count h → is_shown h T e ≡ true
      → ancestor_of h T (from_leaf h e) ≡ v → record_of h e ≢ Some k
      → has (rest_of h k ls v) e ≡ true
  rest-from v e l shown is other =
      has_filter-from (λ g. not (is_corner_of h k g)) (listed ls v) e
      (not_from_false (is_corner_of h k e)
      (false_from_ne_true (is_corner_of h k e) (λ t. let p = corner_of-parts h k e t in
      other (corner_of-record h k e k_lt p.0 p.1).1)))
      ((corners.each v e).1 (l, shown, is))

  rest-once : (v : ℕ) → IsOnce (rest_of h k ls v)
  rest-once v = once-filter (λ g. not (is_corner_of h k g)) (listed ls v) (corners.once v)

  module _ (split : T k ≡ true) (t_active : IsActive h T (t_of h k))
      (u_active : IsActive h T (u_of h k)) where
    abbrev After : ℕ → ℕ → Type 0
    After v e = (e < 3 * face_count h) × (is_shown h (without T k) e ≡ true)
        × (ancestor_of h (without T k) (from_leaf h e) ≡ v)

    -- the leaf of a corner is below s exactly where its ancestor is t or u
    below-s : (x : ℕ) → x < leaf_count h → Makes h k (ancestor_of h T x) → Holds h (s_of h k) x
    below-s x l made =
        grind (arith, common_steps, holds-ancestor_of, holds-s_from_t, holds-s_from_u)

    below-made : (x : ℕ) → x < leaf_count h → Holds h (s_of h k) x → Makes h k (ancestor_of h T x)
    below-made x l held =
        elim (cases_Bool (holds h (t_of h k) x)) [
          | inl a ↦ inl (ancestor_of-unique h tree.forest T front (t_of h k) x t_active a)
          | inr a ↦ inr
              (ancestor_of-unique h tree.forest T front (u_of h k) x u_active
              (holds-u_from_s h tree.forest k x k_lt held a))
        ]

    collapsed-forth : (v e : ℕ) → has (collapsed_list h k ls v) e ≡ true → After v e
    collapsed-forth v e t =
        let from_child : (w : ℕ) → Makes h k w → has (rest_of h k ls w) e ≡ true
        → After (s_of h k) e = λ w made u.
        let p = rest-parts w e u in
        let leaf = tree.faces.leaves e p.0 in
        let held = below-s (from_leaf h e) leaf (subst (Makes h k) (sym p.2) made) in (
          p.0,
          shown_without h T k e p.3 p.1,
          collapse-under h tree.forest T front k k_lt split
              t_active u_active (from_leaf h e) leaf held,
        ) in
        elim (cases_eq v (s_of h k)) [
          | inl is ↦
              let both = ap (λ l. has l e) (sym (collapsed-s h k ls v is)) ∙ t in
              let or = sym (has-append (rest_of h k ls (u_of h k)) (rest_of h k ls (t_of h k)) e)
              ∙ both in
              subst (λ w. After w e) (sym is)
              (elim (or_cases (has (rest_of h k ls (u_of h k)) e)
              (has (rest_of h k ls (t_of h k)) e) or) [
                | inl a ↦ from_child (u_of h k) (inr refl) a
                | inr a ↦ from_child (t_of h k) (inl refl) a
              ])
          | inr differs ↦
              elim (cases_made h k v) [
                | inl made ↦
                    absurd (false≢true
                    (ap (λ l. has l e) (sym (collapsed-child h k ls v differs made)) ∙ t))
                | inr other ↦
                    let p = rest-parts v e
                    (ap (λ l. has l e) (sym (collapsed-other h k ls v differs other)) ∙ t) in
                    let leaf = tree.faces.leaves e p.0 in
                    let out = false_from_ne_true (holds h (s_of h k) (from_leaf h e))
                    (λ held. other
                    (subst (Makes h k) p.2 (below-made (from_leaf h e) leaf held))) in (
                      p.0,
                      shown_without h T k e p.3 p.1,
                      collapse-elsewhere h tree.forest T front k
                          k_lt split t_active u_active (from_leaf h e) leaf out ∙ p.2,
                    )
              ]
        ]

    collapsed-back : (v e : ℕ) → After v e → has (collapsed_list h k ls v) e ≡ true
    collapsed-back v e (l, shown, is) =
        let q = shown_without-parts h T k e shown in
        let x = from_leaf h e in
        let leaf = tree.faces.leaves e l in
        elim (cases_Bool (holds h (s_of h k) x)) [
          | inl held ↦
              let at_s : v ≡ s_of h k = grind (arith, common_steps, collapse-under) in
              let t_rest = rest_of h k ls (t_of h k) in
              let u_rest = rest_of h k ls (u_of h k) in
              ap (λ l. has l e) (collapsed-s h k ls v at_s) ∙ has-append u_rest t_rest e
              ∙ elim (below-made x leaf held) [
                | inl a ↦ or_right (has u_rest e) (has t_rest e)
                    (rest-from (t_of h k) e l q.1 a q.0)
                | inr a ↦ or_left (has u_rest e) (has t_rest e) (rest-from (u_of h k) e l q.1 a q.0)
              ]
          | inr out ↦
              let stays : ancestor_of h T x ≡ v = grind (arith, common_steps, collapse-elsewhere) in
              let differs : v ≢ s_of h k = grind (arith, common_steps, active-ancestor) in
              let other : Makes h k v → ⊥ = grind (arith, common_steps, below-s) in
              ap (λ l. has l e) (collapsed-other h k ls v differs other)
              ∙ rest-from v e l q.1 stays q.0
        ]

    collapsed-once : (v : ℕ) → IsOnce (collapsed_list h k ls v)
    collapsed-once v =
        elim (cases_eq v (s_of h k)) [
          | inl is ↦
              subst IsOnce (sym (collapsed-s h k ls v is))
              (once-append (rest_of h k ls (u_of h k)) (rest_of h k ls (t_of h k))
              (rest-once (u_of h k)) (rest-once (t_of h k)) (λ e in_u.
              false_from_ne_true (has (rest_of h k ls (t_of h k)) e) (λ in_t.
              let p = (rest-parts (u_of h k) e in_u).2 in
              let q = (rest-parts (t_of h k) e in_t).2 in
              omega (arith, p, q))))
          | inr differs ↦ grind (arith, common_steps, collapsed-child, collapsed-other, rest-once)
        ]

    ancestor-low : (U : ℕ → Bool) (v e : ℕ) → e < 3 * face_count h
        → ancestor_of h U (from_leaf h e) ≡ v → v < node_count h
    ancestor-low U v e l is =
        subst (λ w. w < node_count h) is
        (ancestor-lt h tree.forest U (record_count h) (from_leaf h e) (tree.faces.leaves e l))

    -- A legal collapse keeps the lists right.
    pub collapsed-corners : AreCorners h (without T k) (collapsed_lists h k ls)
    collapsed-corners = record {
      nodes = length-by_node h (collapsed_list h k ls);
      each = each_by_node h (collapsed_list h k ls) After
          (λ v e l. (collapsed-forth v e, collapsed-back v e))
          (λ v e p. ancestor-low (without T k) v e p.0 p.2);
      once = once_by_node h (collapsed_list h k ls) (λ v l. collapsed-once v);
    }
