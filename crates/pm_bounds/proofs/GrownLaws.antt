-- Numbers that grow from the leaves up: the equations that they keep, and one record more in their
-- table.
use Rattle.std.proofs.Common.{◌≡◌, ℕ, zero, suc, ◌+◌, ◌*◌, ◌<◌, ◌≤◌, ◌-◌, ◌||◌, List, length, map}
use Rattle.std.proofs.lemmas.Grind.{common_steps}
use Rattle.std.proofs.Common.{get_or, set, length-set, Option, None, Some, IfSome, inl, inr, refl}
use Rattle.std.proofs.Common.{sym, ap, subst, ◌∙◌, arith}
use Rattle.std.proofs.lemmas.Bool.{cases_eq}
use Rattle.std.proofs.lemmas.List.{get_or-set_same, get_or-set_other}
use Rattle.pm_base.proofs.Search.{option_cases}
use Rattle.pm_forest.specs.Forest.{Hierarchy, record_count, node_count, s_of, t_of, u_of}
use Rattle.pm_forest.specs.Forest.{splitter_of, HasForestShape}
use Rattle.pm_forest.specs.Faces.{faces_of}
use Rattle.pm_forest.specs.Rules.{HasShape}
use Rattle.pm_forest.proofs.Nodes.{splitter_of-splits, splitter_of-s}
use Rattle.pm_forest.proofs.ShapeLaws.{shape_of_nodes}
use Rattle.pm_bounds.specs.declared.normal_box.NormalBox.{NormalBox}
use Rattle.pm_bounds.specs.Boxes.{join, box_of, IsSmallBox}
use Rattle.pm_bounds.specs.Bounds.{has_corner_under, normal_of, from_children, grown_in, grown_from}
use Rattle.pm_bounds.specs.Bounds.{box_under}
use Rattle.pm_bounds.proofs.BoxLaws.{join-small, box_of-either}
use Rattle.pm_bounds.proofs.LeafLaws.{filter_same}
use Rattle.pm_bounds.proofs.Nodes.{split_node, children_faces}
use Rattle.pm_bounds.proofs.TableLaws.{kept}
use Rattle.pm_bounds.specs.Tables.{grown_at}

-- No record below k splits node v.
abbrev pub DoneFrom : Hierarchy → ℕ → ℕ → Type 0
DoneFrom h k v = (j : ℕ) → splitter_of h v ≡ Some j → k ≤ j

module _ (h : Hierarchy) (nodes : HasForestShape h) where
  -- no record up to k splits a child of record k
  pub later : (k j v : ℕ) → k < record_count h → t_of h k ≤ v → splitter_of h v ≡ Some j → k < j
  later k j v l child e = grind (arith, common_steps, splitter_of-splits h j v e)

  module _ (leaf : ℕ → ℕ) where
    same_children : (f g : ℕ → ℕ) (v k : ℕ) → f (t_of h k) ≡ g (t_of h k)
        → f (u_of h k) ≡ g (u_of h k) →
        from_children h leaf f v (Some k) ≡ from_children h leaf g v (Some k)
    same_children f g v k t u = rw (t, u) refl

    at_leaf : (n v : ℕ) → splitter_of h v ≡ None → grown_in h leaf n v ≡ leaf v
    unfolding grown_in
    at_leaf zero v none = refl
    at_leaf (suc n) v none = ap (from_children h leaf (grown_in h leaf n) v) none

    at_split : (n v k : ℕ) → splitter_of h v ≡ Some k
        → grown_in h leaf (suc n) v ≡ from_children h leaf (grown_in h leaf n) v (Some k)
    unfolding grown_in
    at_split n v k e = ap (from_children h leaf (grown_in h leaf n) v) e

    -- One turn more changes nothing, where all records on the way down have numbers of at least k
    -- and there are turns for them.
    steady : (n k v : ℕ) → record_count h ≤ n + k → DoneFrom h k v
        → grown_in h leaf (suc n) v ≡ grown_in h leaf n v
    steady zero k v enough low =
        elim (option_cases (splitter_of h v)) [
          | inl none ↦ at_leaf 1 v none ∙ sym (at_leaf 0 v none)
          | inr (j, e) ↦ (let p = (splitter_of-splits h j v e).1 in let q = low j e in
              absurd (omega arith))
        ]
    steady (suc n) k v enough low =
        elim (option_cases (splitter_of h v)) [
          | inl none ↦ at_leaf (suc (suc n)) v none ∙ sym (at_leaf (suc n) v none)
          | inr (j, e) ↦
              let p = (splitter_of-splits h j v e).1 in
              let q = low j e in
              let t = steady n (suc j) (t_of h j) (omega arith)
              (λ i g. later j i (t_of h j) p (omega arith) g) in
              let u = steady n (suc j) (u_of h j) (omega arith)
              (λ i g. later j i (u_of h j) p (omega arith) g) in
              at_split (suc n) v j e ∙ same_children (grown_in h leaf (suc n)) (grown_in h leaf n) v
              j t u ∙ sym (at_split n v j e)
        ]

    pub grown_at_leaf : (v : ℕ) → splitter_of h v ≡ None → grown_from h leaf v ≡ leaf v
    grown_at_leaf v none = at_leaf (record_count h) v none

    pub grown_at_split : (k : ℕ) → k < record_count h
        → grown_from h leaf (s_of h k) ≡ from_children h leaf (grown_from h leaf) (s_of h k)
        (Some k)
    grown_at_split k l =
        sym (steady (record_count h) 0 (s_of h k) (omega arith) (λ j e. omega arith))
        ∙ at_split (record_count h) (s_of h k) k (splitter_of-s h nodes k l)

-- The table of numbers once the records from k on have been gone through.
pub record IsGrown (h : Hierarchy) (first now : List ℕ) (k : ℕ) : Type 0 where
  pub len : length now ≡ node_count h
  pub each : (leaf : ℕ → ℕ)
      → ((v : ℕ) → v < node_count h → splitter_of h v ≡ None → get_or first v 0 ≡ leaf v) →
      (v : ℕ) → v < node_count h → DoneFrom h k v → get_or now v 0 ≡ grown_from h leaf v
  pub small : (v : ℕ) → v < node_count h → get_or now v 0 ≤ 113509 * (1 + (record_count h - k))

module _ (h : Hierarchy) (shape : HasShape h) (first : List ℕ) where
  -- before any record
  pub grown_start : length first ≡ node_count h
      → ((v : ℕ) → v < node_count h → get_or first v 0 ≤ 113509)
      → IsGrown h first first (record_count h)
  grown_start len small = record {
    len = len;
    each = λ leaf own v l done. elim (option_cases (splitter_of h v)) [
      | inl none ↦ own v l none ∙ sym (grown_at_leaf h (shape_of_nodes h shape) leaf v none)
      | inr (j, e) ↦ (let p = (splitter_of-splits h j v e).1 in let q = done j e in
          absurd (omega arith))
    ];
    small = λ v l. (let s = small v l in omega arith);
  }

  at_s : (old : List ℕ) (k : ℕ) → k < record_count h → IsGrown h first old (suc k) → (leaf : ℕ → ℕ)
      →
      ((v : ℕ) → v < node_count h → splitter_of h v ≡ None → get_or first v 0 ≡ leaf v)
      → grown_at h old k ≡ grown_from h leaf (s_of h k)
  at_s old k l was leaf own =
      let t = was.each leaf own (t_of h k) (omega arith)
      (λ j e. later h (shape_of_nodes h shape) k j (t_of h k) l (omega arith) e) in
      let u = was.each leaf own (u_of h k) (omega arith)
      (λ j e. later h (shape_of_nodes h shape) k j (u_of h k) l (omega arith) e) in
      rw (t, u) (sym (grown_at_split h (shape_of_nodes h shape) leaf k l))

  -- one record more
  pub grown_step : (old : List ℕ) (k x : ℕ) → k < record_count h → IsGrown h first old (suc k)
      → x ≡ grown_at h old k →
      x ≤ 113509 * (1 + (record_count h - suc k)) + 113509
      → IsGrown h first (set old (s_of h k) x) k
  grown_step old k x l was is small =
      let node = split_node h shape k l in
      let len = was.len in
      let inside : s_of h k < length old = omega arith in
      record {
        len = length-set old (s_of h k) x ∙ len;
        each = λ leaf own v m done. elim (cases_eq v (s_of h k)) [
          | inl same ↦
              subst (λ w. get_or (set old (s_of h k) x) w 0 ≡ grown_from h leaf w) (sym same)
              (get_or-set_same old (s_of h k) x 0 inside ∙ is ∙ at_s old k l was leaf own)
          | inr other ↦
              let still : DoneFrom h (suc k) v = λ j e. (let q = done j e in elim (cases_eq j k) [
                | inl at_k ↦
                    absurd (other (sym (ap (s_of h) (sym at_k) ∙ (splitter_of-splits h j v e).0)))
                | inr past ↦ omega arith
              ]) in
              get_or-set_other old (s_of h k) v x 0 other ∙ was.each leaf own v m still
        ];
        small = λ v m. elim (cases_eq v (s_of h k)) [
          | inl same ↦ grind (arith, common_steps, get_or, get_or-set_same)
          | inr other ↦
              let there = get_or-set_other old (s_of h k) v x 0 other in
              let before = was.small v m in
              omega arith
        ];
      }

-- The table of boxes once the records from k on have been gone through.
pub record AreJoined (h : Hierarchy) (now : List (Option NormalBox)) (k : ℕ) : Type 0 where
  pub len : length now ≡ node_count h
  pub each : (v : ℕ) → v < node_count h → DoneFrom h k v → get_or now v None ≡ box_under h v
  pub small : (v : ℕ) → v < length now → IfSome (get_or now v None) IsSmallBox

module _ (h : Hierarchy) (shape : HasShape h) where
  -- what lies under a node that is split lies under its children
  pub box_under-split : (k : ℕ) → k < record_count h
      → box_under h (s_of h k) ≡ join (box_under h (t_of h k)) (box_under h (u_of h k))
  unfolding box_under
  box_under-split k l =
      ap (λ fs. box_of (map (normal_of h) fs))
      (filter_same (has_corner_under h (s_of h k))
      (λ f. has_corner_under h (t_of h k) f || has_corner_under h (u_of h k) f) (faces_of h)
      (λ f. children_faces h shape k f l))
      ∙ box_of-either (normal_of h) (has_corner_under h (t_of h k)) (has_corner_under h (u_of h k))
      (faces_of h)

  pub joined_start : (first : List (Option NormalBox)) → length first ≡ node_count h →
      ((v : ℕ) → v < node_count h → splitter_of h v ≡ None → get_or first v None ≡ box_under h v) →
      ((v : ℕ) → v < length first → IfSome (get_or first v None) IsSmallBox)
      → AreJoined h first (record_count h)
  joined_start first len own small = record {
    len = len;
    each = λ v l done. elim (option_cases (splitter_of h v)) [
      | inl none ↦ own v l none
      | inr (j, e) ↦ (let p = (splitter_of-splits h j v e).1 in let q = done j e in
          absurd (omega arith))
    ];
    small = small;
  }

  pub joined_step : (old : List (Option NormalBox)) (k : ℕ) (x : Option NormalBox)
      → k < record_count h → AreJoined h old (suc k) →
      x ≡ join (get_or old (t_of h k) None) (get_or old (u_of h k) None)
      → AreJoined h (set old (s_of h k) x) k
  joined_step old k x l was is =
      let node = split_node h shape k l in
      let len = was.len in
      let inside : s_of h k < length old = omega arith in
      let t = was.each (t_of h k) (omega arith)
      (λ j e. later h (shape_of_nodes h shape) k j (t_of h k) l (omega arith) e) in
      let u = was.each (u_of h k) (omega arith)
      (λ j e. later h (shape_of_nodes h shape) k j (u_of h k) l (omega arith) e) in
      let value : x ≡ box_under h (s_of h k) = is ∙ (rw (t, u) (sym (box_under-split k l))) in
      let fits : IfSome x IsSmallBox =
      subst (λ b. IfSome b IsSmallBox) (sym is)
      (join-small (get_or old (t_of h k) None) (get_or old (u_of h k) None)
      (was.small (t_of h k) (omega arith)) (was.small (u_of h k) (omega arith))) in
      record {
        len = length-set old (s_of h k) x ∙ len;
        each = λ v m done. elim (cases_eq v (s_of h k)) [
          | inl same ↦
              subst (λ w. get_or (set old (s_of h k) x) w None ≡ box_under h w) (sym same)
              (get_or-set_same old (s_of h k) x None inside ∙ value)
          | inr other ↦
              let still : DoneFrom h (suc k) v = λ j e. (let q = done j e in elim (cases_eq j k) [
                | inl at_k ↦
                    absurd (other (sym (ap (s_of h) (sym at_k) ∙ (splitter_of-splits h j v e).0)))
                | inr past ↦ omega arith
              ]) in
              get_or-set_other old (s_of h k) v x None other ∙ was.each v m still
        ];
        small = kept None (λ b. IfSome b IsSmallBox) old (s_of h k) x inside was.small fits;
      }
