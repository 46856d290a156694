-- A hierarchy that numbers a run: stage by stage it shows the meshes of the run.
use Rattle.std.proofs.Common.{suc, zero, ◌≡◌, ◌≢◌, ℕ, ◌+◌, ◌-◌, ◌*◌, ◌%◌, ◌<◌, None}
use Rattle.std.proofs.lemmas.Grind.{common_steps}
use Rattle.std.proofs.Common.{length, inl, inr, refl, sym, ap, ◌∙◌, subst, arith}
use Rattle.std.proofs.lemmas.Bool.{cases_lt, leb-false, lt-ltb, ltb-true, cond-true}
use Rattle.std.proofs.lemmas.Bool.{cond-false}
use Rattle.std.proofs.lemmas.Option.{none-some}
use Rattle.pm_base.specs.Sides.{next, face_of}
use Rattle.pm_base.proofs.Sides.{next_cases, face_of-next}
use Rattle.pm_forest.proofs.Ancestors.{stays as stays_there, to_t, to_u, move, ancestor_of-unique}
use Rattle.pm_forest.proofs.Ancestors.{below-front}
use Rattle.pm_forest.proofs.Nodes.{has_maker}
use Rattle.pm_forest.specs.Faces.{first_face, face_count, revealed_after, from_leaf}
use Rattle.pm_forest.specs.Forest.{Hierarchy, widths, leaf_count, s_of, t_of, u_of, root_of}
use Rattle.pm_forest.specs.Fronts.{IsFront, ancestor_after, ancestor_of, below}
use Rattle.pm_number.proofs.RunLaws.{merge_cases, given, used-given, ends_given}
use Rattle.pm_number.proofs.ShownNets.{shown-merged}
use Rattle.pm_firm.specs.Firm.{shown_net}
use Rattle.pm_number.specs.Shown.{IsNumbered}
use Rattle.pm_number.specs.Stages.{Renames, Run, steps, entry_at, from_after, net_of_run_after}
use Rattle.pm_number.specs.Stages.{IsMerging, side_by}
use Rattle.pm_runs.proofs.Merges.{merge-pair, merge-other}
use Rattle.pm_runs.specs.Surfaces.{merge}

-- Sides by their faces' numbers

pub side-face : (face : ℕ → ℕ) (e : ℕ) → face_of (side_by face e) ≡ face (face_of e)
unfolding side_by
side-face face e = omega arith

pub side-turns : (face : ℕ → ℕ) (e : ℕ) → side_by face (next e) ≡ next (side_by face e)
unfolding side_by
side-turns face e =
    grind (arith, common_steps, face_of-next e, next_cases e, next_cases (side_by face e))

pub side-lt : (face : ℕ → ℕ) (e n : ℕ) → face (face_of e) < n → side_by face e < 3 * n
unfolding side_by
side-lt face e n l = omega arith

pub side-back : (face : ℕ → ℕ) (e g : ℕ) → face g ≡ face_of e → side_by face (3 * g + e % 3) ≡ e
unfolding side_by
side-back face e g is = grind (arith, common_steps)

-- no record below 0
pub root-ancestor : (h : Hierarchy) (k x : ℕ)
    → ancestor_after h (below 0) k x ≡ root_of (widths h) 0 x
unfolding ancestor_after
root-ancestor h zero x = refl
root-ancestor h (suc k) x =
    grind (arith, common_steps, ltb-true, move, stays_there, to_t, to_u, root-ancestor h k x)

-- faces that no record reveals come first
pub base-first : (h : Hierarchy) (n f : ℕ) → f < first_face h n → revealed_after h n f ≡ None
    → f < first_face h 0
unfolding revealed_after
base-first h zero f l e = l
base-first h (suc n) f l e =
    grind (arith, common_steps, cond-false, cond-true, leb-false, none-some, base-first h n f)

module _ (r : Run) (h : Hierarchy) (node leaf face : ℕ → ℕ) (run : IsMerging r)
    (num : IsNumbered r h node leaf face) where
  abbrev pub side : ℕ → ℕ
  side e = side_by face e

  abbrev pub up : ℕ → ℕ → ℕ
  up k x = ancestor_of h (below k) x

  front : (k : ℕ) → IsFront h (below k)
  front k = below-front h num.forest k

  -- a merge is one of nodes as well as of vertices
  node-merge : (i k v : ℕ) → i + suc k ≡ steps r → v < r.vertices + i
      → merge (t_of h k) (u_of h k) (s_of h k) (node v)
      ≡ node (merge (entry_at r i).t (entry_at r i).u (entry_at r i).s v)
  node-merge i k v e l =
      let c = entry_at r i in
      let g = ends_given r run i (omega arith) in
      let both = merge-pair (t_of h k) (u_of h k) (s_of h k) (t_of h k) (u_of h k)
      (inl (refl, refl)) in
      elim (merge_cases c.t c.u c.s v) [
        | inl p ↦
            let to_s : merge (t_of h k) (u_of h k) (s_of h k) (node v) ≡ s_of h k =
            elim p.0 [
              | inl z ↦ ap (merge (t_of h k) (u_of h k) (s_of h k)) (ap node z ∙ num.node_t i k e)
                  ∙ both.0
              | inr z ↦ ap (merge (t_of h k) (u_of h k) (s_of h k)) (ap node z ∙ num.node_u i k e)
                  ∙ both.1
            ] in
            to_s ∙ sym (num.node_s i k e) ∙ sym (ap node p.1)
        | inr p ↦
            let not_t : node v ≢ t_of h k =
            λ z. p.0 (num.node_once v c.t (omega arith) (omega arith)
            (z ∙ sym (num.node_t i k e))) in
            let not_u : node v ≢ u_of h k =
            λ z. p.1 (num.node_once v c.u (omega arith) (omega arith)
            (z ∙ sym (num.node_u i k e))) in
            merge-other (t_of h k) (u_of h k) (s_of h k) (node v) not_t not_u ∙ sym (ap node p.2)
      ]

  -- In the full front each leaf has its own node
  pub leaf-node : (x k : ℕ) → k ≡ steps r → x < r.vertices
      → ancestor_of h (below k) (leaf x) ≡ node x
  leaf-node x k is l =
      let n = num.node_there x l in
      let c = num.count in
      ancestor_of-unique h num.forest (below k) (front k) (node x) (leaf x) (
        elim (cases_lt (node x) (length h.roots)) [
          | inl a ↦ inl a
          | inr a ↦ (let (j, b, makes) = has_maker h (node x) (steps r) a n in
              inr (j, omega arith, lt-ltb j k (omega arith), makes))
        ],
        λ j b t q.
            let i = steps r - suc j in
            let e : i + suc j ≡ steps r = omega arith in
            let named = run.named i (omega arith) in
            let same = num.node_once (entry_at r i).s x (omega arith) (omega arith)
            (num.node_s i j e ∙ q) in
            omega arith,
      )
      (num.held x l)

  pub leaves : (e : ℕ) → e < 3 * face_count h → from_leaf h e < leaf_count h
  leaves e l =
      let (g, m, is) = num.face_back (face_of e) (omega arith) in
      let o = 3 * g + e % 3 in
      let o_lt : o < 3 * r.net.faces = omega arith in
      let same = side-back face e g is in
      subst (λ x. x < leaf_count h) (sym (num.corner o o_lt) ∙ ap (from_leaf h) same)
      (num.leaf_there (r.net.from o) (run.vertex o o_lt))

  -- The mesh before collapse i is the one that the records below `steps - i` show
  shows : (i k : ℕ) → i + k ≡ steps r → (e : ℕ) → e < 3 * r.net.faces
      → ancestor_of h (below k) (from_leaf h (side_by face e)) ≡ node (from_after r i e)
  shows zero k is e l =
      ap (ancestor_of h (below k)) (num.corner e l)
      ∙ leaf-node (r.net.from e) k (omega arith) (run.vertex e l)
  shows (suc i) k is e l =
      let old = shows i (suc k) (omega arith) e l in
      let c = num.count in
      let b : side_by face e < 3 * face_count h =
      side-lt face e (face_count h) (num.face_there (face_of e) (omega arith)) in
      sym (shown-merged h num.forest k (omega arith) (from_leaf h (side_by face e)) (leaves _ b))
      ∙ ap (merge (t_of h k) (u_of h k) (s_of h k)) old
      ∙ node-merge i k (from_after r i e) (omega arith) (given r run i e (omega arith) l)

  pub stage : (i k : ℕ) → i + k ≡ steps r
      → Renames (net_of_run_after r i) (shown_net h (below k)) (λ e. side_by face e) node
  stage i k is = record {
    is_side = λ e l. side-lt face e (face_count h) (num.face_there (face_of e) (omega arith));
    turns = λ e l. side-turns face e;
    from = λ e l. shows i k is e l;
    back = λ e l.
        let (g, m, q) = num.face_back (face_of e) (omega arith) in
        (3 * g + e % 3, omega arith, side-back face e g q);
    one = λ v w a b q.
        let x = used-given r run i v (omega arith) a in
        let y = used-given r run i w (omega arith) b in
        num.node_once v w (omega arith) (omega arith) q;
  }
