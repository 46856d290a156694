-- What is marked, to be decided and to be done once the next record is decided.
use Rattle.std.proofs.Common.{◌≡◌, ◌≢◌, ℕ, suc, Bool, true, false, ◌&&◌, ◌||◌, not, List, length}
use Rattle.std.proofs.Common.{set, length-set, get_or-set_other, ◌⊎◌, inl, inr, refl, sym, ◌∙◌}
use Rattle.std.proofs.Common.{subst, arith}
use Rattle.std.proofs.lemmas.Bool.{cases_Bool, cases_eq, both_ways, and_from, and_left}
use Rattle.std.proofs.lemmas.Bool.{not_from_false, not_from_true}
use Rattle.std.proofs.Math.Bool.{beq}
use Rattle.std.specs.Cmp.{booleans_Decides}
use Rattle.pm_forest.specs.Forest.{record_count}
use Rattle.pm_base.specs.Counts.{set_of}
use Rattle.pm_beyond.specs.Moves.{Needs, needs}
use Rattle.pm_beyond.specs.Plans.{less}
use Rattle.pm_beyond.proofs.Standing.{needs-older}
use Rattle.pm_beyond.proofs.Outer.{needs-true, needs-from}
use Rattle.pm_beyond.proofs.TargetLaws.{target-least}
use Rattle.pm_refine.specs.Aims.{Aim, IsFit, Sets, sets, aimed, is_moved}
use Rattle.pm_refine.specs.Holding.{Joins}
use Rattle.pm_refine.specs.Deciding.{AreDecided, IsNext, is_staying}
use Rattle.pm_refine.proofs.NeedLaws.{needed_by}
use Rattle.pm_refine.proofs.DecidingLaws.{moves_below}
use Rattle.pm_refine.proofs.StayingLaws.{stays_is}
use Rattle.pm_refine.proofs.SetLaws.{out-parts, out-other, holds_more, holds_same}
use Rattle.pm_refine.proofs.FindingLaws.{joined-old, joined-new, joined-cases}

module _ {aim : Aim} (fit : IsFit aim) where
  -- The same from the parts of the code.
  pub stays_same : {k : ℕ} {held : Sets} {stays is_split : Bool} → IsNext aim k held
      → is_split ≡ aim.split k → stays ≡ is_staying aim held k → beq stays is_split ≡ true
      → (aim.split k ≡ true) × (aimed aim k ≡ true)
  stays_same {k} {held} {stays} {is_split} n split is same =
      let g : aimed aim k ≡ aim.split k =
      sym (stays_is fit n) ∙ sym is ∙ (booleans_Decides stays is_split).0 same ∙ split in
      elim n.itself [ inl s ↦ (s, g ∙ s) | inr t ↦ (sym g ∙ t, t) ]

  pub stays_other : {k : ℕ} {held : Sets} {stays is_split : Bool} → IsNext aim k held
      → is_split ≡ aim.split k → stays ≡ is_staying aim held k → beq stays is_split ≡ false
      → (aimed aim k ≡ not (aim.split k)) × (is_moved aim k ≡ true)
  stays_other {k} {held} {stays} {is_split} n split is other =
      let e : (aim.split k ≡ aimed aim k → ⊥) =
      λ e. both_ways _ other ((booleans_Decides stays is_split).1 (is ∙ stays_is fit n ∙ sym e
      ∙ sym split)) in
      (turned (aim.split k) (aimed aim k) e, either (aim.split k) (aimed aim k) e)
    where
      turned : (x y : Bool) → (x ≡ y → ⊥) → y ≡ not x
      turned true true e = absurd (e refl)
      turned true false e = refl
      turned false true e = refl
      turned false false e = absurd (e refl)

      either : (x y : Bool) → (x ≡ y → ⊥) → (x && not y || y && not x) ≡ true
      either true true e = absurd (e refl)
      either true false e = refl
      either false true e = refl
      either false false e = absurd (e refl)

  -- After it all records from it on are decided. A record that stays and is split changes nothing;
  pub decided_same : {k : ℕ} {held : Sets} → IsNext aim k held
      → (aim.split k ≡ true) × (aimed aim k ≡ true)
      → AreDecided aim k (sets (set held.marks k false) held.work held.splits held.collapses)
  decided_same {k} {held} n both =
      let (s, g) = both in
      let l = n.is_record in
      let len = n.mark_len in
      record {
        most = omega arith;
        mark_len = length-set {A = Bool} held.marks k false ∙ n.mark_len;
        work_len = n.work_len;
        below = n.below;
        only = n.only;
        tried = λ j t is. elim (n.tried j t is) [
          | inl m ↦ inl (out-other held.marks k j (let low = n.below j t in omega arith) m)
          | inr w ↦ inr w
        ];
        marked = λ j t. let u = out-parts held.marks k j (omega arith) t in n.marked j u.0 u.1;
        sound = λ j t. n.sound j (out-parts held.marks k j (omega arith) t).1;
        all = λ i j low i_lt v u need j_lt. elim (cases_eq i k) [
          | inl same ↦ absurd (both_ways _ u (subst (λ x. aim.split x ≡ true) (sym same) s))
          | inr other ↦
              out-other held.marks k j (omega arith)
              (n.all i j (omega arith) i_lt v u need (omega arith))
        ];
        due = n.due;
        loose = n.loose;
        pushed = n.pushed;
        to_do = moves_below fit k (suc k) held (omega arith) n.to_do
            (λ j low high. let is : j ≡ k =
            omega arith in subst (λ i. aim.split i ≡ aimed aim i) (sym is) (s ∙ sym g));
      }

  -- one that will be split marks what it needs,
  pub decided_split : (k : ℕ) (held : Sets) (marks' work' : List Bool) → IsNext aim k held
      → aim.split k ≡ false → aimed aim k ≡ true →
      length marks' ≡ record_count aim.h → length work' ≡ record_count aim.h →
      Joins (set_of (set held.marks k false)) (set_of marks') (needs aim.h k)
      → Joins (set_of held.work) (set_of work') (needs aim.h k)
      → AreDecided aim k (sets marks' work' (set held.splits k true) held.collapses)
  decided_split k held marks' work' n s g mark_len work_len m w =
      let T = aimed aim in
      let l = n.is_record in
      let len = n.mark_len in
      let least = target-least aim.h fit.valid.shape aim.wanted in
      let stays : (j : ℕ) → set_of held.work j ≡ true → set_of work' j ≡ true =
      λ j t. joined-old (set_of held.work) (set_of work') (needs aim.h k) j w t in
      let marks_cases : (j : ℕ) → set_of marks' j ≡ true → ((j ≢ k) × (set_of held.marks j ≡ true))
      ⊎ (needs aim.h k j ≡ true) = λ j t.
      elim (joined-cases (set_of (set held.marks k false)) (set_of marks') (needs aim.h k) j m t)
      [ inl u ↦ inl (out-parts held.marks k j (omega arith) u) | inr u ↦ inr u ] in
      record {
        most = omega arith;
        mark_len = mark_len;
        work_len = work_len;
        below = λ j t. elim (joined-cases (set_of held.work) (set_of work') (needs aim.h k) j w t) [
          | inl u ↦ n.below j u
          | inr u ↦
              needs-older aim.h fit.valid.shape k j l (needs-true aim.h k j l u)
        ];
        only = λ j t. elim (joined-cases (set_of held.work) (set_of work') (needs aim.h k) j w t)
            [ inl u ↦ n.only j u | inr u ↦ inr (least.closed k j l g (needs-true aim.h k j l u)) ];
        tried = λ j t is. elim
            (joined-cases (set_of held.work) (set_of work') (needs aim.h k) j w t) [
              | inr u ↦ inl
                  (joined-new (set_of (set held.marks k false)) (set_of marks') (needs aim.h k) j m
                  u)
              | inl u ↦
                  elim (n.tried j u is) [
                    | inl v ↦ inl
                        (joined-old (set_of (set held.marks k false)) (set_of marks')
                        (needs aim.h k) j
                        m (out-other held.marks k j (let low = n.below j u in omega arith) v))
                    | inr v ↦ inr v
                  ]
            ];
        marked = λ j t. elim (marks_cases j t) [
          | inl u ↦ stays j (n.marked j u.0 u.1)
          | inr u ↦
              joined-new (set_of held.work) (set_of work') (needs aim.h k) j w u
        ];
        sound = λ j t. elim (marks_cases j t) [
          | inl u ↦ n.sound j u.1
          | inr u ↦
              least.closed k j l g (needs-true aim.h k j l u)
        ];
        all = λ i j low i_lt v u need j_lt. elim (cases_eq i k) [
          | inl same ↦ joined-new (set_of (set held.marks k false)) (set_of marks') (needs aim.h k)
              j m (needs-from aim.h k j (subst (λ x. Needs aim.h x j) same need))
          | inr other ↦ joined-old (set_of (set held.marks k false)) (set_of marks') (needs aim.h k)
              j m (out-other held.marks k j (omega arith)
              (n.all i j (omega arith) i_lt v u need (omega arith)))
        ];
        due = λ j j_lt e. stays j (n.due j j_lt e);
        loose = λ j j_lt e. stays j (n.loose j j_lt e);
        pushed = λ i j t need j_lt. stays j (n.pushed i j t need j_lt);
        to_do = record {
          up = holds_more (record_count aim.h) (less T aim.split) k held.splits l n.to_do.up
              (and_from (T k) (not (aim.split k)) g (not_from_false (aim.split k) s));
          down = holds_same (record_count aim.h) (less aim.split T) k held.collapses n.to_do.down
              (and_left (aim.split k) (not (T k)) s);
        };
      }

  -- and one that goes puts in what it needs.
  pub decided_gone : (k : ℕ) (held : Sets) (work' : List Bool) → IsNext aim k held
      → aim.split k ≡ true → aimed aim k ≡ false →
      length work' ≡ record_count aim.h → Joins (set_of held.work) (set_of work') (needs aim.h k)
      → AreDecided aim k
      (sets (set held.marks k false) work' held.splits (set held.collapses k true))
  decided_gone k held work' n s g work_len w =
      let T = aimed aim in
      let l = n.is_record in
      let len = n.mark_len in
      let stays : (j : ℕ) → set_of held.work j ≡ true → set_of work' j ≡ true =
      λ j t. joined-old (set_of held.work) (set_of work') (needs aim.h k) j w t in
      let gone_cases : (j : ℕ) → set_of (set held.collapses k true) j ≡ true
      → (j ≡ k) ⊎ (set_of held.collapses j ≡ true) = λ j t.
      elim (cases_eq j k) [
        | inl is ↦ inl is
        | inr other ↦
            inr (sym (get_or-set_other held.collapses k j true false other) ∙ t)
      ] in
      record {
        most = omega arith;
        mark_len = length-set {A = Bool} held.marks k false ∙ n.mark_len;
        work_len = work_len;
        below = λ j t. elim (joined-cases (set_of held.work) (set_of work') (needs aim.h k) j w t) [
          | inl u ↦ n.below j u
          | inr u ↦
              needs-older aim.h fit.valid.shape k j l (needs-true aim.h k j l u)
        ];
        only = λ j t. elim (joined-cases (set_of held.work) (set_of work') (needs aim.h k) j w t)
            [ inl u ↦ n.only j u | inr u ↦ inl (fit.closed k j l s (needs-true aim.h k j l u)) ];
        tried = λ j t is. elim
            (joined-cases (set_of held.work) (set_of work') (needs aim.h k) j w t) [
              | inr u ↦ inr (inl (needed_by aim.h aim.split k j l s u))
              | inl u ↦ elim (n.tried j u is) [
                | inl m ↦ inl (out-other held.marks k j (let low = n.below j u in omega arith) m)
                | inr v ↦ inr v
              ]
            ];
        marked = λ j t. let u = out-parts held.marks k j (omega arith) t in
            stays j (n.marked j u.0 u.1);
        sound = λ j t. n.sound j (out-parts held.marks k j (omega arith) t).1;
        all = λ i j low i_lt v u need j_lt. elim (cases_eq i k) [
          | inl same ↦ absurd (both_ways _ u (subst (λ x. aim.split x ≡ true) (sym same) s))
          | inr other ↦
              out-other held.marks k j (omega arith)
              (n.all i j (omega arith) i_lt v u need (omega arith))
        ];
        due = λ j j_lt e. stays j (n.due j j_lt e);
        loose = λ j j_lt e. stays j (n.loose j j_lt e);
        pushed = λ i j t need j_lt. elim (gone_cases i t) [
          | inl is ↦ joined-new (set_of held.work) (set_of work') (needs aim.h k) j w
              (needs-from aim.h k j (subst (λ x. Needs aim.h x j) is need))
          | inr u ↦ stays j (n.pushed i j u need j_lt)
        ];
        to_do = record {
          up = holds_same (record_count aim.h) (less T aim.split) k held.splits n.to_do.up
              (and_left (T k) (not (aim.split k)) g);
          down = holds_more (record_count aim.h) (less aim.split T) k held.collapses l n.to_do.down
              (and_from (aim.split k) (not (T k)) s (not_from_false (T k) g));
        };
      }

  pub decided_by : {k : ℕ} {is_split : Bool} {held : Sets}
      (marks' work' splits' collapses' : List Bool)
      → IsNext aim k held → is_split ≡ aim.split k → aimed aim k ≡ not (aim.split k)
      → length marks' ≡ record_count aim.h → length work' ≡ record_count aim.h
      → Joins (set_of held.work) (set_of work') (needs aim.h k)
      → (is_split ≡ true → (marks' ≡ set held.marks k false) × (splits' ≡ held.splits)
      × (collapses' ≡ set held.collapses k true))
      → (is_split ≡ false → Joins (set_of (set held.marks k false)) (set_of marks') (needs aim.h k)
      × (splits' ≡ set held.splits k true) × (collapses' ≡ held.collapses))
      → AreDecided aim k (sets marks' work' splits' collapses')
  decided_by {k} {is_split} {held} marks' work' splits' collapses' n split turned mark_len work_len
      w goes comes =
      elim (cases_Bool (aim.split k)) [
        | inl t ↦
            let p = goes (split ∙ t) in
            subst (λ ms. AreDecided aim k (sets ms work' splits' collapses')) (sym p.0)
            (subst (λ rs. AreDecided aim k (sets (set held.marks k false) work' rs collapses'))
            (sym p.1)
            (subst (λ fs. AreDecided aim k (sets (set held.marks k false) work' held.splits fs))
            (sym p.2)
            (decided_gone k held work' n t (turned ∙ not_from_true (aim.split k) t) work_len w)))
        | inr f ↦
            let p = comes (split ∙ f) in
            subst (λ rs. AreDecided aim k (sets marks' work' rs collapses')) (sym p.1)
            (subst (λ fs. AreDecided aim k (sets marks' work' (set held.splits k true) fs))
            (sym p.2)
            (decided_split k held marks' work' n f (turned ∙ not_from_false (aim.split k) f)
            mark_len work_len p.0 w))
      ]
