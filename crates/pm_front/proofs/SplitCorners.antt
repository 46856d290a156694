-- After a legal split the corner lists have just the corners of kept faces at each active node,
-- each once.
use Rattle.std.proofs.Common.{◌≡◌, ◌≢◌, ℕ, ◌+◌, ◌-◌, ◌*◌, ◌<◌, ◌≤◌, Bool, true, false, eqb}
use Rattle.std.proofs.lemmas.Grind.{common_steps}
use Rattle.std.proofs.Common.{List, [], filter, reverse, inl, inr, sym, ap, ◌∙◌, subst, arith}
use Rattle.std.proofs.lemmas.Bool.{or_cases, or_left, or_right, eqb-true, eq-eqb, ne_eqb}
use Rattle.std.proofs.lemmas.Bool.{cases_Bool, cases_eq, false≢true, both_ways, false_from_ne_true}
use Rattle.std.proofs.lemmas.Bool.{cond-true, cond-false}
use Rattle.pm_links.specs.Lists.{has, IsOnce}
use Rattle.pm_forest.specs.Forest.{Hierarchy, node_count, record_count, leaf_count, s_of}
use Rattle.pm_forest.specs.Forest.{holds, Holds, Makes}
use Rattle.pm_forest.specs.Fronts.{IsFront, IsActive, ancestor_of, child_of, with}
use Rattle.pm_forest.specs.Faces.{first_face, face_count, from_leaf, IsForest}
use Rattle.pm_forest.specs.Kept.{is_shown}
use Rattle.pm_forest.proofs.Nodes.{makes_once, cases_made}
use Rattle.pm_forest.proofs.Ancestors.{ancestor-lt, active-ancestor, holds-ancestor_of}
use Rattle.pm_forest.proofs.Ancestors.{ancestor_of-unique}
use Rattle.pm_forest.proofs.FaceNumbers.{first_face-mono}
use Rattle.pm_forest.proofs.OneStep.{with-same, split-under, split-elsewhere}
use Rattle.pm_forest.proofs.Shown.{shown_record, shown_with, shown_with-parts}
use Rattle.pm_front.specs.Corners.{listed, is_under, dealt_list, split_list, split_lists}
use Rattle.pm_front.specs.Corners.{AreCorners}
use Rattle.pm_front.proofs.ListLaws.{has_filter-parts, has_filter-from, once-filter, has_reverse}
use Rattle.pm_front.proofs.ListLaws.{once-reverse, prepend_passing-old, prepend_passing-new}
use Rattle.pm_front.proofs.ListLaws.{prepend_passing-parts, once-prepend_passing}
use Rattle.pm_front.proofs.NodeLists.{length-by_node, each_by_node, once_by_node}
use Rattle.pm_sides.proofs.RecordSides.{corner_of-record, record-corner_of}

-- what each list is after the dealing
module _ (h : Hierarchy) (k : ℕ) (ls : List (List ℕ)) where
  pub dealt-s : (v : ℕ) → v ≡ s_of h k → dealt_list h k ls v ≡ []
  dealt-s v is = cond-true _ _ _ (eq-eqb v (s_of h k) is)

  pub dealt-child : (v : ℕ) → v ≢ s_of h k → Makes h k v
      → dealt_list h k ls v
      ≡ reverse (filter (λ e. eqb (child_of h k (from_leaf h e)) v) (listed ls (s_of h k)))
  dealt-child v differs made =
      grind (arith, common_steps, cond-false, cond-true, eq-eqb, ne_eqb, or_left, or_right)

  pub dealt-other : (v : ℕ) → v ≢ s_of h k → (Makes h k v → ⊥) → dealt_list h k ls v ≡ listed ls v
  dealt-other v differs made = grind (arith, common_steps, cond-false, eqb-true, ne_eqb, or_cases)

module _ (h : Hierarchy) (tree : IsForest h) (T : ℕ → Bool) (front : IsFront h T) (k : ℕ)
    (k_lt : k < record_count h) (ls : List (List ℕ)) (corners : AreCorners h T ls)
    (s_active : IsActive h T (s_of h k)) (unsplit : T k ≡ false) where
  abbrev Then : ℕ → ℕ → Type 0
  Then v e = (e < 3 * face_count h) × (is_shown h (with T k) e ≡ true)
      × (ancestor_of h (with T k) (from_leaf h e) ≡ v)

  abbrev first : ℕ
  first = 3 * first_face h k

  abbrev count : ℕ
  count = 3 * first_face h (k + 1) - 3 * first_face h k

  counted : first + count ≡ 3 * first_face h (k + 1)
  counted = let more = first_face-mono h k (k + 1) (omega arith) in omega arith

  -- no leaf has a child of the record as its ancestor yet
  pub unmade : (x : ℕ) → x < leaf_count h → Makes h k (ancestor_of h T x) → ⊥
  unmade x leaf made = grind (arith, common_steps, active-ancestor, makes_once)

  at_s : (x : ℕ) → x < leaf_count h → Holds h (s_of h k) x → ancestor_of h T x ≡ s_of h k
  at_s x leaf held = ancestor_of-unique h tree.forest T front (s_of h k) x s_active held

  child-made : (x : ℕ) → Makes h k (child_of h k x)
  child-made x = grind (arith, common_steps, cond-false, cond-true)

  child-differs : (v : ℕ) → Makes h k v → v ≢ s_of h k
  child-differs v made is = let o =
      tree.forest.older k k_lt in
      elim made [ inl a ↦ absurd (omega arith) | inr a ↦ absurd (omega arith) ]

  dealt-forth : (v e : ℕ) → has (dealt_list h k ls v) e ≡ true → (e < 3 * face_count h)
      × (is_shown h T e ≡ true) × (ancestor_of h (with T k) (from_leaf h e) ≡ v)
  dealt-forth v e t =
      elim (cases_eq v (s_of h k)) [
        | inl is ↦ absurd (false≢true (ap (λ l. has l e) (sym (dealt-s h k ls v is)) ∙ t))
        | inr differs ↦
            elim (cases_made h k v) [
              | inl made ↦
                  let test = λ (g : ℕ). eqb (child_of h k (from_leaf h g)) v in
                  let in_filter =
                  sym (has_reverse (filter test (listed ls (s_of h k))) e)
                  ∙ ap (λ l. has l e) (sym (dealt-child h k ls v differs made)) ∙ t in
                  let p = has_filter-parts test (listed ls (s_of h k)) e in_filter in
                  let q = (corners.each (s_of h k) e).0 p.1 in
                  let leaf = tree.faces.leaves e q.0 in
                  let held = subst (λ w. Holds h w (from_leaf h e)) q.2
                  (holds-ancestor_of h tree.forest T (from_leaf h e) leaf) in (
                    q.0,
                    q.1,
                    split-under h tree.forest T front k k_lt s_active unsplit
                        (from_leaf h e) leaf held ∙ eqb-true (child_of h k (from_leaf h e)) v p.0,
                  )
              | inr other ↦
                  let q = (corners.each v e).0
                  (ap (λ l. has l e) (sym (dealt-other h k ls v differs other)) ∙ t) in
                  let leaf = tree.faces.leaves e q.0 in
                  let out = false_from_ne_true (holds h (s_of h k) (from_leaf h e))
                  (λ held. differs (sym q.2 ∙ at_s (from_leaf h e) leaf held)) in (
                    q.0,
                    q.1,
                    split-elsewhere h tree.forest T front k k_lt s_active (from_leaf h e)
                        leaf out ∙ q.2,
                  )
            ]
      ]

  pub dealt-back : (v e : ℕ) → e < 3 * face_count h → is_shown h T e ≡ true
      → ancestor_of h (with T k) (from_leaf h e) ≡ v → has (dealt_list h k ls v) e ≡ true
  dealt-back v e l shown is =
      let x = from_leaf h e in
      let leaf = tree.faces.leaves e l in
      elim (cases_Bool (holds h (s_of h k) x)) [
        | inl held ↦
            let to : child_of h k x ≡ v =
            sym (split-under h tree.forest T front k k_lt s_active unsplit x leaf held) ∙ is in
            let made : Makes h k v = subst (Makes h k) to (child-made x) in
            let test = λ (g : ℕ). eqb (child_of h k (from_leaf h g)) v in
            ap (λ l. has l e) (dealt-child h k ls v (child-differs v made) made)
            ∙ has_reverse (filter test (listed ls (s_of h k))) e
            ∙ has_filter-from test (listed ls (s_of h k)) e (eq-eqb (child_of h k x) v to)
            ((corners.each (s_of h k) e).1 (l, shown, at_s x leaf held))
        | inr out ↦
            let stays : ancestor_of h T x ≡ v =
            sym (split-elsewhere h tree.forest T front k k_lt s_active x leaf out) ∙ is in
            let held = subst (λ w. Holds h w x) stays (holds-ancestor_of h tree.forest T x leaf) in
            let differs : v ≢ s_of h k =
            λ at. both_ways (holds h (s_of h k) x) out (subst (λ w. Holds h w x) at held) in
            ap (λ l. has l e)
            (dealt-other h k ls v differs
            (λ made. unmade x leaf (subst (Makes h k) (sym stays) made)))
            ∙ (corners.each v e).1 (l, shown, stays)
      ]

  dealt-once : (v : ℕ) → IsOnce (dealt_list h k ls v)
  dealt-once v =
      elim (cases_eq v (s_of h k)) [
        | inl is ↦ subst IsOnce (sym (dealt-s h k ls v is)) tt
        | inr differs ↦
            elim (cases_made h k v) [
              | inl made ↦
                  let test = λ (g : ℕ). eqb (child_of h k (from_leaf h g)) v in
                  subst IsOnce (sym (dealt-child h k ls v differs made))
                  (once-reverse (filter test (listed ls (s_of h k)))
                  (once-filter test (listed ls (s_of h k)) (corners.once (s_of h k))))
              | inr other ↦ subst IsOnce (sym (dealt-other h k ls v differs other)) (corners.once v)
            ]
      ]

  -- the corners of the record aren't there yet
  pub new-fresh : (v e : ℕ) → 3 * first_face h k ≤ e → e < 3 * first_face h (k + 1)
      → has (dealt_list h k ls v) e ≡ false
  new-fresh v e low high =
      false_from_ne_true (has (dealt_list h k ls v) e) (λ t.
      let q = dealt-forth v e t in
      let own = corner_of-record h k e k_lt low high in
      both_ways (T k) unsplit (sym (shown_record h T e k own.1) ∙ q.1))

  split-forth : (v e : ℕ) → has (split_list h T k ls v) e ≡ true → Then v e
  split-forth v e t =
      elim (prepend_passing-parts (is_under h (with T k) v) first count (dealt_list h k ls v) e t) [
        | inl old ↦ (let q = dealt-forth v e old in (q.0, shown_with h T k e q.1, q.2))
        | inr new ↦
            let own =
            corner_of-record h k e k_lt new.0
            (let c = counted in omega (arith, new.1)) in (
              own.0,
              shown_record h (with T k) e k own.1
                  ∙ with-same T k,
              eqb-true (ancestor_of h (with T k) (from_leaf h e)) v new.2,
            )
      ]

  split-back : (v e : ℕ) → Then v e → has (split_list h T k ls v) e ≡ true
  split-back v e (l, shown, is) =
      elim (shown_with-parts h T k e shown) [
        | inl own ↦
            grind (arith, common_steps, counted, eq-eqb, prepend_passing-new, record-corner_of)
        | inr old ↦ prepend_passing-old (is_under h (with T k) v) first count (dealt_list h k ls v)
            e (dealt-back v e l old is)
      ]

  -- A legal split keeps the lists right.
  pub split-corners : AreCorners h (with T k) (split_lists h T k ls)
  split-corners = record {
    nodes = length-by_node h (split_list h T k ls);
    each = each_by_node h (split_list h T k ls) Then (λ v e l. (split-forth v e, split-back v e))
        (λ v e p. subst (λ w. w < node_count h) p.2
        (ancestor-lt h tree.forest (with T k) (record_count h) (from_leaf h e)
        (tree.faces.leaves e p.0)));
    once = once_by_node h (split_list h T k ls) (λ v l.
        once-prepend_passing (is_under h (with T k) v) first count (dealt_list h k ls v)
        (dealt-once v) (λ e low high. let c = counted in new-fresh v e low (omega arith)));
  }
