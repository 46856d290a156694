-- A hierarchy that numbers a run undoes its collapses.
use Rattle.std.proofs.Common.{suc, zero, ◌≡◌, ℕ, ◌+◌, ◌-◌, ◌*◌, ◌%◌, ◌<◌, ◌≤◌, Option, Some, None}
use Rattle.std.proofs.Common.{inl, inr, refl, sym, ap, ◌∙◌, subst, arith}
use Rattle.std.proofs.lemmas.Bool.{cases_lt, cases_Bool}
use Rattle.std.proofs.lemmas.Option.{none-some}
use Rattle.pm_base.proofs.Search.{option_cases}
use Rattle.pm_base.specs.Sides.{next, face_of, Stands}
use Rattle.pm_beyond.specs.Walks.{expected, IsOuter}
use Rattle.pm_forest.proofs.FaceNumbers.{first_face-mono, revealed-parts, record-lt}
use Rattle.pm_forest.proofs.Sides.{three_sides}
use Rattle.pm_forest.specs.Faces.{first_face, face_count, is_left, record_of, from_leaf, to_leaf}
use Rattle.pm_forest.specs.Faces.{HasFaceShape}
use Rattle.pm_forest.specs.Forest.{Hierarchy, record_count, u_of}
use Rattle.pm_forest.specs.Fronts.{ancestor_of, below}
use Rattle.pm_number.proofs.Renamed.{stands-moved, once-moved, no_mirror-moved, apart-moved}
use Rattle.pm_number.proofs.RunLaws.{fresh-s, proper_after, used_t, used_u, stood_before}
use Rattle.pm_number.proofs.RunLaws.{gone_for_good}
use Rattle.pm_firm.specs.Firm.{shown_net}
use Rattle.pm_number.specs.Shown.{UndoesCollapses, IsNumbered}
use Rattle.pm_number.specs.Stages.{side_moved, Renames, Run, steps, entry_at, net_of_run_after}
use Rattle.pm_number.specs.Stages.{IsMerging, side_by}
use Rattle.pm_runs.proofs.Across.{across_next-stays, across_last-stays}
use Rattle.pm_runs.specs.Merged.{IsProper, StandsAcross, KeepsApart}
use Rattle.pm_runs.specs.Pairs.{Links, IsPair}
use Rattle.pm_number.proofs.Stages.{side-face, side-lt, side-back, root-ancestor, base-first}
use Rattle.pm_number.proofs.Stages.{leaf-node, leaves, stage}
use Rattle.pm_number.proofs.RecordFaces.{shape_left, shape_right, expected-first, expected-second}
use Rattle.pm_number.proofs.RecordFaces.{InnerOf, left_inner, right_inner}
use Rattle.pm_number.proofs.RecordMates.{recorded, stands_on}

module _ (r : Run) (h : Hierarchy) (node leaf face : ℕ → ℕ) (run : IsMerging r)
    (num : IsNumbered r h node leaf face) where
  -- Base sides stand to the end
  base_stands : (i e : ℕ) → i ≤ steps r → e < 3 * r.net.faces → record_of h (side_by face e) ≡ None
      → Stands (net_of_run_after r i) e
  base_stands zero e l m n = run.whole e m
  base_stands (suc i) e l m n =
      stands_on run num i (steps r - suc i) (omega arith) e
      (base_stands i e (omega arith) m n) (λ z. none-some _ (sym n ∙ z))

  no_longer : (i c x : ℕ) → i < steps r
      → Links (net_of_run_after r i) x (entry_at r i).t (entry_at r i).u → x < 3 * r.net.faces
      → face_of (side_by face x) ≡ face_of (side_by face c) → Stands (net_of_run_after r (suc i)) c
      → ⊥
  no_longer i c x l links x_lt on st =
      let c_lt = st.is_side in
      let same = num.face_once (face_of c) (face_of x) (omega arith) (omega arith)
      (sym (side-face face c) ∙ sym on ∙ side-face face x) in
      gone_for_good r run i x c l links same st

  -- One that stands after collapse i is of a face older than its record
  older_side : (i k c : ℕ) → i + suc k ≡ steps r → Stands (net_of_run_after r (suc i)) c
      → side_by face c < 3 * first_face h k
  older_side i k c is st =
      let o = side_by face c in
      let l = st.is_side in
      let o_lt : o < 3 * face_count h =
      side-lt face c (face_count h) (num.face_there (face_of c) (omega arith)) in
      let count = num.count in
      elim (option_cases (record_of h o)) [
        | inl n ↦ (let b = base-first h (record_count h) (face_of o) (omega arith) n in let m =
            first_face-mono h 0 k (omega arith) in omega arith)
        | inr (j, own) ↦
            let f_lt : face_of o < face_count h = omega arith in
            let parts = revealed-parts h (face_of o) j f_lt own in
            elim (cases_lt j k) [
              | inl b ↦ (let m = first_face-mono h (suc j) k b in let p = parts.2 in omega arith)
              | inr b ↦
                  let i' = steps r - suc j in
                  let p = parts.0 in
                  let e : i' + suc j ≡ steps r = omega arith in
                  let st' : Stands (net_of_run_after r (suc i')) c =
                  stood_before r run (suc i) (suc i') c (omega arith) (omega arith) st in
                  absurd (elim (cases_Bool (is_left h j (face_of o))) [
                    | inl left ↦
                        (let w = left_inner run num i' j e (face_of o) f_lt own
                        left in no_longer i' c w.x (omega arith) (inl w.runs) w.runs.stands.is_side
                        w.face_is st')
                    | inr left ↦
                        (let w = right_inner run num i' j e (face_of o) f_lt own
                        left in no_longer i' c w.x (omega arith) (inr w.runs) w.runs.stands.is_side
                        w.face_is st')
                  ])
            ]
      ]

  -- the side is of a face before those of record k
  abbrev IsOlder : ℕ → Option ℕ → Type 0
  IsOlder k None = Unit {0}
  IsOlder k (Some b) = b < 3 * first_face h k

  older-recorded : (i k : ℕ) (q c : Option ℕ) → i + suc k ≡ steps r
      → q ≡ side_moved (λ e. side_by face e) c
      → ((g : ℕ) → c ≡ Some g → Stands (net_of_run_after r (suc i)) g) → IsOlder k q
  older-recorded i k q None is e st = subst (IsOlder k) (sym e) tt
  older-recorded i k q (Some g) is e st =
      subst (IsOlder k) (sym e) (older_side i k g is (st g refl))

  outer-older : (i k e a b : ℕ) (is : i + suc k ≡ steps r)
      → IsPair (entry_at r i).t (entry_at r i).u a b → e < 3 * face_count h → IsOuter h k e
      → (w : InnerOf run num i k is (face_of e) a b) → IsOlder k (expected h e)
  outer-older i k e a b is pair l outer w =
      let o = side_by face w.x in
      let c = entry_at r i in
      let fresh = fresh-s r run i (omega arith) in
      let keeps = (run.linkable i (omega arith)).apart in
      let proper = proper_after r run i (omega arith) in
      elim (three_sides e o (sym w.face_is)) [
        | inl q ↦ absurd (outer.1 (q ∙ sym w.is_inner))
        | inr which ↦
            elim which [
              | inl q ↦
                  let (n, n_is, across) = w.on_first _ refl in
                  older-recorded i k _ n is
                  (expected-first run num i k is e outer.0 (q ∙ ap next (sym w.is_inner)) ∙ n_is)
                  (λ g z. across_next-stays (net_of_run_after r i) c.t c.u c.s fresh keeps proper
                  w.x a b g pair w.runs
                  (subst (StandsAcross (net_of_run_after r i) (next w.x)) z across))
              | inr q ↦
                  let (n, n_is, across) = w.on_second _ refl in
                  older-recorded i k _ n is
                  (expected-second run num i k is e outer.0
                  (q ∙ ap (λ g. next (next g)) (sym w.is_inner)) ∙ n_is)
                  (λ g z. across_last-stays (net_of_run_after r i) c.t c.u c.s fresh keeps proper
                  w.x a b g pair w.runs
                  (subst (StandsAcross (net_of_run_after r i) (next (next w.x))) z across))
            ]
      ]

  -- All together

  at_stage : (k : ℕ) → k < record_count h → (i : ℕ) × (i + suc k ≡ steps r)
  at_stage k l = let c = num.count in (steps r - suc k, omega arith)

  pub faces-shape : HasFaceShape h
  faces-shape = record {
    leaves = leaves r h node leaf face run num;
    base = λ e l own z.
        let (g, m, q) = num.face_back (face_of e) (omega arith) in
        let o = 3 * g + e % 3 in
        let same = side-back face e g q in
        let st = stands-moved (net_of_run_after r (steps r)) (shown_net h (below 0))
        (λ e. side_by face e) node (stage r h node leaf face run num (steps r) 0 (omega arith))
        o
        (base_stands (steps r) o (omega arith) (omega arith) (ap (record_of h) same ∙ own)) in
        let st' = subst (Stands (shown_net h (below 0))) same st in
        st'.first (root-ancestor h (record_count h) (from_leaf h e) ∙ z
        ∙ sym (root-ancestor h (record_count h) (to_leaf h e)));
    left = λ f k l own left. let k_lt = (revealed-parts h f k l own).0 in let (i, is) =
        at_stage k k_lt in shape_left run num i k is f l own left;
    right = λ f k l own left. let k_lt = (revealed-parts h f k l own).0 in let (i, is) =
        at_stage k k_lt in shape_right run num i k is f l own left;
  }

  neighbours : (e k : ℕ) → e < 3 * face_count h → IsOuter h k e → IsOlder k (expected h e)
  neighbours e k l outer =
      let f_lt : face_of e < face_count h = omega arith in
      let (i, is) = at_stage k (record-lt h e k l outer.0) in
      elim (cases_Bool (is_left h k (face_of e))) [
        | inl left ↦
            outer-older i k e _ _ is (inl (refl, refl)) l outer
            (left_inner run num i k is (face_of e) f_lt outer.0 left)
        | inr left ↦
            outer-older i k e _ _ is (inr (refl, refl)) l outer
            (right_inner run num i k is (face_of e) f_lt outer.0 left)
      ]

  full : Renames (net_of_run_after r 0) (shown_net h (below (record_count h))) (λ e. side_by face e)
      node
  full = let c = num.count in stage r h node leaf face run num 0 (record_count h) (omega arith)

  full_proper : IsProper (shown_net h (below (record_count h)))
  full_proper =
      let p = proper_after r run 0 (omega arith) in
      record {
        once = once-moved (net_of_run_after r 0) (shown_net h (below (record_count h)))
            (λ e. side_by face e) node full p.once;
        no_mirror = no_mirror-moved (net_of_run_after r 0) (shown_net h (below (record_count h)))
            (λ e. side_by face e) node full p.no_mirror;
      }

  full_stands : (e : ℕ) → e < 3 * face_count h → Stands (shown_net h (below (record_count h))) e
  full_stands e l =
      let (g, m, q) = num.face_back (face_of e) (omega arith) in
      let o = 3 * g + e % 3 in
      subst (Stands (shown_net h (below (record_count h)))) (side-back face e g q)
      (stands-moved (net_of_run_after r 0) (shown_net h (below (record_count h)))
      (λ e. side_by face e) node full o (run.whole o (omega arith)))

  -- The hierarchy of a run undoes its collapses
  pub undoes : UndoesCollapses h
  undoes = record {
    shape = record { forest = num.forest; faces = faces-shape };
    no_side_twice =
        λ e g st st' a b. full_proper.once e g (full_stands e st.is_side)
        (full_stands g st'.is_side) (ap (ancestor_of h (below (record_count h))) a)
        (ap (ancestor_of h (below (record_count h))) b);
    leaves_apart = λ x y l m z.
        let (v, v_lt, v_is) = num.leaf_back x l in
        let (w, w_lt, w_is) = num.leaf_back y m in
        let at : (u : ℕ) → u < r.vertices → ancestor_of h (below (record_count h)) (leaf u)
        ≡ node u = λ u b. leaf-node r h node leaf face run num u (record_count h) num.count b in
        let up : ℕ → ℕ = ancestor_of h (below (record_count h)) in
        let same = num.node_once v w (omega arith) (omega arith) (sym (at v v_lt) ∙ ap up v_is ∙ z
        ∙ sym (ap up w_is) ∙ at w w_lt) in
        sym v_is ∙ ap leaf same ∙ w_is;
    proper = full_proper;
    apart = λ k l.
        let (i, is) = at_stage k l in
        let c = entry_at r i in
        let i_lt : i < steps r = omega arith in
        let keeps = apart-moved (net_of_run_after r i) (shown_net h (below (suc k)))
        (λ e. side_by face e) node (stage r h node leaf face run num i (suc k) is) c.t c.u
        (used_t r run i i_lt) (used_u r run i i_lt) (run.linkable i i_lt).apart in
        subst (λ v. KeepsApart (shown_net h (below (suc k))) v (u_of h k)) (num.node_t i k is)
        (subst (λ v. KeepsApart (shown_net h (below (suc k))) (node c.t) v) (num.node_u i k is)
        keeps);
    recorded = λ e k l own. let (i, is) = at_stage k (record-lt h e k l own) in
        recorded run num i k is e l own;
    older = λ e k b l outer q. subst (IsOlder k) q (neighbours e k l outer);
  }
