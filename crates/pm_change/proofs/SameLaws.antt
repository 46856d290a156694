-- Where nothing changes.
use Rattle.std.proofs.Common.{◌≡◌, ℕ, zero, suc, ◌+◌, ◌*◌, ◌<◌, ◌≤◌, Bool, true, false, not, ◌&&◌}
use Rattle.std.proofs.Common.{◌||◌, List, [], ◌∷◌, length, map, filter, inl, inr, refl, sym, ap}
use Rattle.std.proofs.Common.{◌∙◌, subst, arith}
use Rattle.std.specs.List.{range_with_len}
use Rattle.std.proofs.lemmas.Bool.{cases_Bool, and_from, both_ways, not_from_false}
use Rattle.pm_base.specs.Counts.{count}
use Rattle.pm_forest.specs.Forest.{Hierarchy, node_count, record_count, leaf_count, s_of, t_of}
use Rattle.pm_forest.specs.Forest.{interval_of, holds, Holds}
use Rattle.pm_forest.specs.Fronts.{IsFront, is_active, ancestor_of}
use Rattle.pm_forest.specs.Faces.{face_count, from_leaf}
use Rattle.pm_forest.specs.Kept.{is_kept}
use Rattle.pm_forest.specs.Rules.{HasShape}
use Rattle.pm_forest.proofs.Nodes.{within-from}
use Rattle.pm_forest.proofs.Ancestors.{there-lt, active-ancestor}
use Rattle.pm_forest.proofs.Active.{is_active-from}
use Rattle.pm_forest.proofs.FrontLaws.{prefixes}
use Rattle.pm_forest.proofs.HierarchyLaws.{some_leaves, under_node}
use Rattle.pm_forest.proofs.ShapeLaws.{shape_of_nodes, shape_of_faces}
use Rattle.pm_beyond.specs.Plans.{differs}
use Rattle.pm_beyond.proofs.PlanLists.{same_bools}
use Rattle.pm_morph.specs.Laws.{shown_face_at}
use Rattle.pm_change.specs.Shown.{shown_node_at}
use Rattle.pm_change.specs.Changes.{Change, change_of, gone_nodes, new_nodes, gone_faces, put_faces}
use Rattle.pm_change.specs.Changes.{is_new_node, is_put, is_at_new}
use Rattle.pm_change.specs.Applying.{IsIn}
use Rattle.pm_change.specs.Laws as laws
use Rattle.pm_change.specs.Laws.{IsNear, child, parent, nothing, is_new_corner, new_corners}
use Rattle.pm_change.proofs.ApplyLaws.{map-fail}
use Rattle.pm_change.proofs.CornerLaws.{active_stays, moved_corner_new, put_moved}
use Rattle.pm_change.proofs.Counting.{count_none}
use Rattle.pm_change.proofs.LeastLaws.{from_passing}
use Rattle.pm_change.proofs.Sizes.{nodes_few, faces_few}

none_long : {A : Type 0} (l : List A) → length l ≡ 0 → l ≡ []
none_long [] e = refl
none_long (x ∷ xs) e = absurd (omega (arith, e))

none_pass : {A : Type 0} (f : ℕ → A) (t : ℕ → Bool) (a n : ℕ) → ((i : ℕ) → i < a + n → t i ≡ false)
    → map f (filter t (range_with_len a n)) ≡ []
none_pass f t a zero none = refl
none_pass f t a (suc n) none = map-fail t f a n (none a (omega arith))
    ∙ none_pass f t (a + 1) n (λ i l. none i (omega arith))

and_false : (b : Bool) → (b && (false || (false || false))) ≡ false
and_false true = refl
and_false false = refl

same_differs : (a b : Bool) → a ≡ b → ((a && not b) || (b && not a)) ≡ false
same_differs true true e = refl
same_differs false false e = refl
same_differs true false e = absurd (both_ways true (e ∙ refl) refl)
same_differs false true e = absurd (both_ways false refl e)

first_held : (h : Hierarchy) → HasShape h → (v : ℕ) → v < node_count h
    → Holds h v (interval_of h v).from
unfolding holds
first_held h shape v l = within-from (interval_of h v) (interval_of h v).from (omega arith)
    (some_leaves h shape v l)

-- The ancestor of a leaf is a new node where it wasn't active before.
module _ (h : Hierarchy) (shape : HasShape h) (S G : ℕ → Bool) where
  pub here_active : (x : ℕ) → x < leaf_count h → is_active h G (ancestor_of h G x) ≡ true
  here_active x l = (let nodes = shape_of_nodes h shape in is_active-from h nodes G
      (ancestor_of h G x) (active-ancestor h nodes G x l))

  pub here_below : (x : ℕ) → x < leaf_count h → ancestor_of h G x < node_count h
  here_below x l = (let nodes = shape_of_nodes h shape in there-lt h nodes G (ancestor_of h G x)
      (active-ancestor h nodes G x l).0)

  listed_new : (x : ℕ) → x < leaf_count h → is_active h S (ancestor_of h G x) ≡ false
      → IsIn (shown_node_at h (ancestor_of h G x)) (new_nodes h S G)
  listed_new x l e =
      from_passing (shown_node_at h) (is_new_node h S G) 0 (node_count h) (ancestor_of h G x)
      (omega arith) (let b = here_below x l in omega arith)
      (and_from (is_active h G (ancestor_of h G x)) (not (is_active h S (ancestor_of h G x)))
      (here_active x l) (not_from_false (is_active h S (ancestor_of h G x)) e))

  no_new : new_nodes h S G ≡ [] → (x : ℕ) → x < leaf_count h
      → is_active h S (ancestor_of h G x) ≡ true
  no_new none x l =
      elim (cases_Bool (is_active h S (ancestor_of h G x))) [
        | inl y ↦ y
        | inr y ↦ absurd (subst (λ l. IsIn (shown_node_at h (ancestor_of h G x)) l) none
            (listed_new x l y))
      ]

module _ (h : Hierarchy) (shape : HasShape h) (S G : ℕ → Bool) (before : IsFront h S)
    (now : IsFront h G) where
  same_from : change_of h S G ≡ nothing → (k : ℕ) → k < record_count h → S k ≡ G k
  same_from is k l =
      let nodes = shape_of_nodes h shape in
      let older = nodes.older k l in
      let s_lt : s_of h k < node_count h = omega arith in
      let x = (interval_of h (s_of h k)).from in
      let held = first_held h shape (s_of h k) s_lt in
      let leaf = under_node h shape (s_of h k) x s_lt held in
      let same = active_stays h shape S G before x leaf
      (no_new h shape S G (ap (λ (c : Change). c.new_nodes) is) x leaf) in
      let p = prefixes h nodes S before k x l leaf held in
      let q = prefixes h nodes G now k x l leaf held in
      same_bools (S k) (G k) (λ e. q.1 (subst (λ v. t_of h k ≤ v) same (p.0 e)))
      (λ e. p.1 (subst (λ v. t_of h k ≤ v) (sym same) (q.0 e)))

  corner_old : new_nodes h S G ≡ [] → (e : ℕ) → e < 3 * face_count h → is_at_new h S G e ≡ false
  corner_old none e l = rw (no_new h shape S G none (from_leaf h e)
      ((shape_of_faces h shape).leaves e l)) refl

  unput : new_nodes h S G ≡ [] → (f : ℕ) → f < face_count h → is_put h S G f ≡ false
  unput none f l =
      put_moved h S G f ∙ ap (λ b. is_kept h G f && b) (moved_corner_new h shape S G before f l)
      ∙ rw (
        corner_old none (3 * f) (omega arith),
        corner_old none (3 * f + 1) (omega arith),
        corner_old none (3 * f + 2) (omega arith),
      ) (and_false (is_kept h G f))

  from_same : ((k : ℕ) → k < record_count h → S k ≡ G k) → change_of h S G ≡ nothing
  from_same same =
      let none : count (differs S G) (record_count h)
      ≡ 0 = count_none (differs S G) (record_count h)
      (λ k l. same_differs (S k) (G k) (same k l)) in
      let nodes = nodes_few h S G in
      let faces = faces_few h shape S G before now in
      let a = none_long (gone_nodes h S G) (omega arith) in
      let b = none_long (new_nodes h S G) (omega arith) in
      let c = none_long (gone_faces h S G) (omega arith) in
      let d : put_faces h S G ≡ [] = none_pass (shown_face_at h G) (is_put h S G) 0 (face_count h)
      (λ f l. unput b f (omega arith)) in
      rw (a, b, c, d) refl

pub nothing_same : laws.NothingExactlyWhereSame
nothing_same h shape S G before now =
    (same_from h shape S G before now, from_same h shape S G before now)
