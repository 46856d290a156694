-- The faces of a record of a hierarchy that numbers a run: which side lies between its children,
-- and what is told of the others.
use Rattle.std.proofs.Common.{suc, ◌≡◌, ◌≢◌, ℕ, ◌+◌, ◌*◌, ◌<◌, eqb, true, false, cond, Option, Some}
use Rattle.std.proofs.Common.{sym, ap, ◌∙◌, subst, arith}
use Rattle.std.proofs.lemmas.Bool.{cond-true, cond-false, both_ways}
use Rattle.std.proofs.lemmas.Bool.{false_from_ne_true, eq-eqb, ne_eqb}
use Rattle.pm_base.specs.Sides.{next, face_of, Net, Stands}
use Rattle.pm_base.proofs.Sides.{face_of-next}
use Rattle.pm_beyond.specs.Walks.{number_of, mate_of, expected_at, expected}
use Rattle.pm_forest.proofs.Ancestors.{holds-ancestor_of}
use Rattle.pm_forest.proofs.Nodes.{holds-u_from_s}
use Rattle.pm_forest.proofs.Sides.{next-differs, next_next-differs}
use Rattle.pm_forest.specs.Faces.{face_count, revealed_by, is_left, new_face}
use Rattle.pm_forest.specs.Faces.{record_of, from_leaf, to_leaf, inner_of}
use Rattle.pm_forest.specs.Forest.{Hierarchy, record_count, s_of, t_of, u_of, holds}
use Rattle.pm_forest.specs.Forest.{Holds}
use Rattle.pm_forest.specs.Fronts.{ancestor_of, below}
use Rattle.pm_number.proofs.Renamed.{runs-moved}
use Rattle.pm_number.proofs.ShownNets.{at-t, at-u}
use Rattle.pm_firm.specs.Firm.{shown_net}
use Rattle.pm_number.specs.Shown.{IsNumbered}
use Rattle.pm_number.specs.Stages.{side_moved, Renames, Run, steps, entry_at, net_of_run_after}
use Rattle.pm_number.specs.Stages.{IsMerging, side_by}
use Rattle.pm_runs.specs.Merged.{StandsAcross}
use Rattle.pm_runs.specs.Pairs.{Runs}
use Rattle.pm_number.proofs.Stages.{leaves, stage}
use Rattle.pm_number.proofs.GoneFaces.{IsGoneFace, left_face, right_face, face_of_record}
use Rattle.pm_number.proofs.GoneFaces.{inner-found}

module _ {r : Run} {h : Hierarchy} {node leaf face : ℕ → ℕ} (run : IsMerging r)
    (num : IsNumbered r h node leaf face) where
  module _ (i k : ℕ) (is : i + suc k ≡ steps r) where
    abbrev pub m : Net
    m = net_of_run_after r i

    abbrev now : ℕ → ℕ
    now e = ancestor_of h (below (suc k)) (from_leaf h e)

    pub k_lt : k < record_count h
    k_lt = let c = num.count in omega arith

    pub map : Renames (net_of_run_after r i) (shown_net h (below (suc k))) (λ e. side_by face e)
        node
    map = stage r h node leaf face run num i (suc k) is

    -- just before record k goes, a leaf is under t or u exactly where that is its ancestor
    holds_t : (e : ℕ) → e < 3 * face_count h → now e ≡ t_of h k → Holds h (t_of h k) (from_leaf h e)
    holds_t e l q =
        subst (λ v. Holds h v (from_leaf h e)) q
        (holds-ancestor_of h num.forest (below (suc k)) (from_leaf h e)
        (leaves r h node leaf face run num e l))

    holds_u : (e : ℕ) → e < 3 * face_count h → now e ≡ u_of h k → Holds h (u_of h k) (from_leaf h e)
    holds_u e l q =
        subst (λ v. Holds h v (from_leaf h e)) q
        (holds-ancestor_of h num.forest (below (suc k)) (from_leaf h e)
        (leaves r h node leaf face run num e l))

    off_t : (e : ℕ) → now e ≢ t_of h k → holds h (t_of h k) (from_leaf h e) ≡ false
    off_t e n = false_from_ne_true _ (λ t. n (at-t h num.forest k k_lt (from_leaf h e) t))

    off_u : (e : ℕ) → now e ≢ u_of h k → holds h (u_of h k) (from_leaf h e) ≡ false
    off_u e n = false_from_ne_true _ (λ t. n (at-u h num.forest k k_lt (from_leaf h e) t))

    off_s : (e : ℕ) → now e ≢ t_of h k → now e ≢ u_of h k → holds h (s_of h k) (from_leaf h e)
        ≡ false
    off_s e n n' =
        false_from_ne_true _
        (λ t. both_ways _ (off_u e n')
        (holds-u_from_s h num.forest k (from_leaf h e) k_lt t (off_t e n)))

    -- a side of the run from t to u, or from u to t, in the hierarchy
    record Ends (e a b : ℕ) : Type 0 where
      pub is_side : e < 3 * face_count h
      pub stands : Stands (shown_net h (below (suc k))) e
      pub begins : now e ≡ a
      pub ends : now (next e) ≡ b
      pub apart_a : now (next (next e)) ≢ a
      pub apart_b : now (next (next e)) ≢ b

    ends_of : (x p q a b : ℕ) → Runs (net_of_run_after r i) x p q → node p ≡ a → node q ≡ b
        → Ends (side_by face x) a b
    ends_of x p q a b runs i1 i2 =
        let w = runs-moved (net_of_run_after r i) (shown_net h (below (suc k)))
        (λ e. side_by face e) node map x p q runs in
        record {
          is_side = w.stands.is_side;
          stands = w.stands;
          begins = w.begins ∙ i1;
          ends = w.ends ∙ i2;
          apart_a = λ z. w.stands.last (z ∙ sym i1 ∙ sym w.begins);
          apart_b = λ z. w.stands.second (w.ends ∙ i2 ∙ sym z);
        }

    -- the inner side of a face of record k
    inner_left : (f : ℕ) → is_left h k f ≡ true
        → (g : IsGoneFace run num i k f (entry_at r i).t (entry_at r i).u)
        → (inner_of h k f ≡ side_by face g.x) × Ends (side_by face g.x) (t_of h k) (u_of h k)
    inner_left f left g =
        let e = ends_of g.x _ _ _ _ g.runs (num.node_t i k is) (num.node_u i k is) in
        let o = side_by face g.x in
        let v : cond (is_left h k f) (t_of h k) (u_of h k) ≡ t_of h k =
        cond-true _ (t_of h k) (u_of h k) left in
        let n1 : now (next o) ≢ t_of h k = λ z. e.stands.first (e.begins ∙ sym z) in (
          inner-found run num k f o g.is_face
              (subst (λ n. Holds h n (from_leaf h o)) (sym v) (holds_t o e.is_side e.begins))
              (subst (λ n. holds h n (from_leaf h (next o)) ≡ false) (sym v) (off_t (next o) n1))
              (subst (λ n. holds h n (from_leaf h (next (next o))) ≡ false) (sym v)
              (off_t (next (next o)) e.apart_a)),
          e,
        )

    inner_right : (f : ℕ) → is_left h k f ≡ false
        → (g : IsGoneFace run num i k f (entry_at r i).u (entry_at r i).t)
        → (inner_of h k f ≡ side_by face g.x) × Ends (side_by face g.x) (u_of h k) (t_of h k)
    inner_right f left g =
        let e = ends_of g.x _ _ _ _ g.runs (num.node_u i k is) (num.node_t i k is) in
        let o = side_by face g.x in
        let v : cond (is_left h k f) (t_of h k) (u_of h k) ≡ u_of h k =
        cond-false _ (t_of h k) (u_of h k) left in
        let n1 : now (next o) ≢ u_of h k = λ z. e.stands.first (e.begins ∙ sym z) in (
          inner-found run num k f o g.is_face
              (subst (λ n. Holds h n (from_leaf h o)) (sym v) (holds_u o e.is_side e.begins))
              (subst (λ n. holds h n (from_leaf h (next o)) ≡ false) (sym v) (off_u (next o) n1))
              (subst (λ n. holds h n (from_leaf h (next (next o))) ≡ false) (sym v)
              (off_u (next (next o)) e.apart_a)),
          e,
        )

    next_side : (e : ℕ) → e < 3 * face_count h → next e < 3 * face_count h
    next_side e l = let f = face_of-next e in omega arith

    pub shape_left : (f : ℕ) → f < face_count h → revealed_by h f ≡ Some k → is_left h k f ≡ true
        → let o = inner_of h k f in
        Holds h (t_of h k) (from_leaf h o) × Holds h (u_of h k) (to_leaf h o)
        × (holds h (s_of h k) (from_leaf h (next (next o))) ≡ false)
    shape_left f l own left =
        elim (face_of_record run num i k f is l own) [
          | left_face _ g ↦
              let (same, e) = inner_left f left g in
              let o = side_by face g.x in
              subst (λ o. Holds h (t_of h k) (from_leaf h o) × Holds h (u_of h k) (to_leaf h o)
              × (holds h (s_of h k) (from_leaf h (next (next o))) ≡ false)) (sym same) (
                holds_t o e.is_side e.begins,
                holds_u (next o) (next_side o e.is_side) e.ends,
                off_s (next (next o)) e.apart_a e.apart_b,
              )
          | right_face not_left g ↦ absurd (both_ways _ not_left left)
        ]

    pub shape_right : (f : ℕ) → f < face_count h → revealed_by h f ≡ Some k → is_left h k f ≡ false
        → let o = inner_of h k f in
        Holds h (u_of h k) (from_leaf h o) × Holds h (t_of h k) (to_leaf h o)
        × (holds h (s_of h k) (from_leaf h (next (next o))) ≡ false)
    shape_right f l own left =
        elim (face_of_record run num i k f is l own) [
          | left_face is_left g ↦ absurd (both_ways _ left is_left)
          | right_face _ g ↦
              let (same, e) = inner_right f left g in
              let o = side_by face g.x in
              subst (λ o. Holds h (u_of h k) (from_leaf h o) × Holds h (t_of h k) (to_leaf h o)
              × (holds h (s_of h k) (from_leaf h (next (next o))) ≡ false)) (sym same) (
                holds_u o e.is_side e.begins,
                holds_t (next o) (next_side o e.is_side) e.ends,
                off_s (next (next o)) e.apart_b e.apart_a,
              )
        ]

    -- What is expected beside the sides of record k's faces

    pub expected-inner : (e : ℕ) → record_of h e ≡ Some k → e ≡ inner_of h k (face_of e)
        → expected h e ≡ mate_of h k (face_of e)
    unfolding expected
    expected-inner e own q =
        let o = inner_of h k (face_of e) in
        ap (expected_at h e) own
        ∙ cond-true _ (mate_of h k (face_of e))
        (cond (eqb e (next o)) (number_of (new_face h k (face_of e)).first)
        (number_of (new_face h k (face_of e)).second)) (eq-eqb e o q)

    pub expected-first : (e : ℕ) → record_of h e ≡ Some k → e ≡ next (inner_of h k (face_of e))
        → expected h e ≡ number_of (new_face h k (face_of e)).first
    unfolding expected
    expected-first e own q =
        let o = inner_of h k (face_of e) in
        let n = next-differs o in
        ap (expected_at h e) own
        ∙ cond-false _ (mate_of h k (face_of e))
        (cond (eqb e (next o)) (number_of (new_face h k (face_of e)).first)
        (number_of (new_face h k (face_of e)).second)) (ne_eqb e o (λ z. n (sym q ∙ z)))
        ∙ cond-true _ (number_of (new_face h k (face_of e)).first)
        (number_of (new_face h k (face_of e)).second) (eq-eqb e (next o) q)

    pub expected-second : (e : ℕ) → record_of h e ≡ Some k
        → e ≡ next (next (inner_of h k (face_of e)))
        → expected h e ≡ number_of (new_face h k (face_of e)).second
    unfolding expected
    expected-second e own q =
        let o = inner_of h k (face_of e) in
        let n = next_next-differs o in
        let n' = next-differs (next o) in
        ap (expected_at h e) own
        ∙ cond-false _ (mate_of h k (face_of e))
        (cond (eqb e (next o)) (number_of (new_face h k (face_of e)).first)
        (number_of (new_face h k (face_of e)).second)) (ne_eqb e o (λ z. n (sym q ∙ z)))
        ∙ cond-false _ (number_of (new_face h k (face_of e)).first)
        (number_of (new_face h k (face_of e)).second) (ne_eqb e (next o) (λ z. n' (sym q ∙ z)))

    -- an inner side, and where it stands across from
    pub record InnerOf (f a b : ℕ) : Type 0 where
      pub x : ℕ
      pub is_inner : inner_of h k f ≡ side_by face x
      pub runs : Runs (net_of_run_after r i) x a b
      pub face_is : face_of (side_by face x) ≡ f
      pub on_first : (q : Option ℕ) → number_of (new_face h k f).first ≡ q
          → (c : Option ℕ) × (q ≡ side_moved (λ e. side_by face e) c)
          × StandsAcross (net_of_run_after r i) (next x) c
      pub on_second : (q : Option ℕ) → number_of (new_face h k f).second ≡ q
          → (c : Option ℕ) × (q ≡ side_moved (λ e. side_by face e) c)
          × StandsAcross (net_of_run_after r i) (next (next x)) c

    inner-of : (f a b : ℕ) → (g : IsGoneFace run num i k f a b) → inner_of h k f ≡ side_by face g.x
        → InnerOf f a b
    inner-of f a b g same = record {
      x = g.x;
      is_inner = same;
      runs = g.runs;
      face_is = g.is_face;
      on_first = λ q z. (g.first, sym z ∙ g.keeps_first, g.across_first);
      on_second = λ q z. (g.second, sym z ∙ g.keeps_second, g.across_second);
    }

    pub left_inner : (f : ℕ) → f < face_count h → revealed_by h f ≡ Some k → is_left h k f ≡ true
        → InnerOf f (entry_at r i).t (entry_at r i).u
    left_inner f l own left =
        elim (face_of_record run num i k f is l own) [
          | left_face _ g ↦ inner-of f _ _ g (inner_left f left g).0
          | right_face not_left g ↦ absurd (both_ways _ not_left left)
        ]

    pub right_inner : (f : ℕ) → f < face_count h → revealed_by h f ≡ Some k → is_left h k f ≡ false
        → InnerOf f (entry_at r i).u (entry_at r i).t
    right_inner f l own left =
        elim (face_of_record run num i k f is l own) [
          | left_face is_left g ↦ absurd (both_ways _ left is_left)
          | right_face _ g ↦ inner-of f _ _ g (inner_right f left g).0
        ]
