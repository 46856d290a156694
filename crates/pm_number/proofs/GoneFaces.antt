-- The faces that a collapse drops, as faces of its record, and which of their sides is the inner.
use Rattle.std.proofs.Common.{suc, ◌≡◌, ◌≢◌, ℕ, ◌+◌, ◌*◌, ◌<◌, true, false, cond, Option, Some}
use Rattle.std.proofs.Common.{None, is_some, unwrap_or, inl, inr, sym, ap, ◌∙◌, subst, arith}
use Rattle.std.proofs.lemmas.Bool.{cases_Bool, and_left, cond-true, cond-false, both_ways}
use Rattle.std.proofs.lemmas.Bool.{false≢true, and_from, eq-eqb, ne_eqb}
use Rattle.std.proofs.lemmas.Bool.{and_right}
use Rattle.pm_base.specs.Counts.{one_if}
use Rattle.pm_base.specs.Sides.{next, face_of}
use Rattle.pm_base.specs.declared.log.Gone.{Gone}
use Rattle.pm_beyond.specs.Walks.{number_of}
use Rattle.pm_forest.proofs.FaceNumbers.{which_face}
use Rattle.pm_forest.proofs.Sides.{three_sides}
use Rattle.pm_forest.specs.Faces.{no_face, first_face, face_count, revealed_by, is_left, new_face}
use Rattle.pm_forest.specs.Faces.{from_leaf, inner_of}
use Rattle.pm_forest.specs.Forest.{Hierarchy, record_at, t_of, u_of, holds}
use Rattle.pm_forest.specs.Forest.{Holds}
use Rattle.pm_forest.specs.declared.parts.NewFace.{NewFace}
use Rattle.pm_number.specs.Shown.{SameGone, IsNumbered}
use Rattle.pm_number.specs.Stages.{side_moved, Run, steps, entry_at, net_of_run_after}
use Rattle.pm_number.specs.Stages.{IsGone, IsMerging, side_by}
use Rattle.pm_runs.specs.Merged.{StandsAcross}
use Rattle.pm_runs.specs.Pairs.{Runs}
use Rattle.pm_number.proofs.Stages.{side-face}

module _ {r : Run} {h : Hierarchy} {node leaf face : ℕ → ℕ} (run : IsMerging r)
    (num : IsNumbered r h node leaf face) where
  -- The faces of record k

  pub record IsGoneFace (i k f p q : ℕ) : Type 0 where
    pub x : ℕ
    pub runs : Runs (net_of_run_after r i) x p q
    pub is_face : face_of (side_by face x) ≡ f
    pub first : Option ℕ
    pub second : Option ℕ
    pub across_first : StandsAcross (net_of_run_after r i) (next x) first
    pub across_second : StandsAcross (net_of_run_after r i) (next (next x)) second
    pub keeps_first : number_of (new_face h k f).first ≡ side_moved (λ e. side_by face e) first
    pub keeps_second : number_of (new_face h k f).second ≡ side_moved (λ e. side_by face e) second

  gone-face : (i k f p q : ℕ) (g : Option Gone) (n : Option NewFace)
      → IsGone (net_of_run_after r i) p q g → SameGone face f g n → is_some n ≡ true
      → new_face h k f ≡ unwrap_or n no_face → IsGoneFace i k f p q
  gone-face i k f p q None None a b t is = absurd (false≢true t)
  gone-face i k f p q None (Some n) a b t is = absurd b
  gone-face i k f p q (Some g) None a b t is = absurd b
  gone-face i k f p q (Some g) (Some n) (e, runs, on, x, y) b t is = record {
    x = e;
    runs = runs;
    is_face = side-face face e ∙ ap face on ∙ b.0;
    first = number_of g.first;
    second = number_of g.second;
    across_first = x;
    across_second = y;
    keeps_first = ap (λ z. number_of z.first) is ∙ b.1;
    keeps_second = ap (λ z. number_of z.second) is ∙ b.2;
  }

  -- the run's account of a face of record k: which ends it runs between
  pub data FaceOf (i k f : ℕ) : Type 0 where
    left_face : is_left h k f ≡ true → IsGoneFace i k f (entry_at r i).t (entry_at r i).u
        → FaceOf i k f
    right_face : is_left h k f ≡ false → IsGoneFace i k f (entry_at r i).u (entry_at r i).t
        → FaceOf i k f

  pub face_of_record : (i k f : ℕ) → i + suc k ≡ steps r → f < face_count h
      → revealed_by h f ≡ Some k → FaceOf i k f
  unfolding is_left
  face_of_record i k f is l own =
      let logged = run.logged i (omega arith) in
      let a = is_some (record_at h k).left in
      let x = unwrap_or (record_at h k).left no_face in
      let y = unwrap_or (record_at h k).right no_face in
      elim (which_face h f k l own) [
        | inl p ↦
            let left : is_left h k f ≡ true = and_from a _ p.0 (eq-eqb f (first_face h k) p.1) in
            left_face left (gone-face i k f _ _ (entry_at r i).left (record_at h k).left logged.left
            (subst (λ n. SameGone face n (entry_at r i).left (record_at h k).left) (sym p.1)
            (num.left i k is)) p.0 (cond-true _ x y left))
        | inr p ↦
            let left : is_left h k f ≡ false =
            elim (cases_Bool a) [
              | inl t ↦ (let one : one_if a ≡ 1 =
                  ap one_if t in
                  and_right a _ (ne_eqb f (first_face h k) (let q = p.1 in omega arith)))
              | inr t ↦ and_left a _ t
            ] in
            right_face left
            (gone-face i k f _ _ (entry_at r i).right (record_at h k).right logged.right
            (subst (λ n. SameGone face n (entry_at r i).right (record_at h k).right) (sym p.1)
            (num.right i k is)) p.0 (cond-false _ x y left))
      ]

  -- the inner side of a face is the one with the right child at its beginning alone
  pub inner-found : (k f e : ℕ) → face_of e ≡ f
      → let v = cond (is_left h k f) (t_of h k) (u_of h k) in
      Holds h v (from_leaf h e) → holds h v (from_leaf h (next e)) ≡ false
      → holds h v (from_leaf h (next (next e))) ≡ false → inner_of h k f ≡ e
  unfolding inner_of
  inner-found k f e is a b c =
      let v = cond (is_left h k f) (t_of h k) (u_of h k) in
      let no : (g : ℕ) → face_of g ≡ f → Holds h v (from_leaf h g) → g ≡ e =
      λ g on t. elim (three_sides g e (on ∙ sym is)) [
        | inl q ↦ q
        | inr which ↦ elim which [
          | inl q ↦ absurd (both_ways _ b (subst (λ z. Holds h v (from_leaf h z)) q t))
          | inr q ↦ absurd (both_ways _ c (subst (λ z. Holds h v (from_leaf h z)) q t))
        ]
      ] in
      let q1 = cond (holds h v (from_leaf h (3 * f + 1))) (3 * f + 1) (3 * f + 2) in
      elim (cases_Bool (holds h v (from_leaf h (3 * f)))) [
        | inl t ↦ cond-true _ (3 * f) q1 t ∙ no (3 * f) (omega arith) t
        | inr t ↦
            cond-false _ (3 * f) q1 t
            ∙ elim (cases_Bool (holds h v (from_leaf h (3 * f + 1)))) [
              | inl t' ↦ cond-true _ (3 * f + 1) (3 * f + 2) t' ∙ no (3 * f + 1) (omega arith) t'
              | inr t' ↦
                  let n0 : e ≢ 3 * f =
                  λ z. both_ways _ t (subst (λ g. Holds h v (from_leaf h g)) z a) in
                  let n1 : e ≢ 3 * f + 1 =
                  λ z. both_ways _ t' (subst (λ g. Holds h v (from_leaf h g)) z a) in
                  cond-false _ (3 * f + 1) (3 * f + 2) t' ∙ omega arith
            ]
      ]
