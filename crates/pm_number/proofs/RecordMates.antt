-- What is told of the sides of a record is what stands across them in the run, stage by stage.
use Rattle.std.proofs.lemmas.Grind.{common_steps}
use Rattle.std.proofs.Common.{suc, ◌≡◌, ◌≢◌, ℕ, ◌+◌, ◌*◌, ◌<◌, true, false, cond, ◌&&◌, Option}
use Rattle.std.proofs.Common.{Some, None, is_some, inl, inr, refl, sym, ap, ◌∙◌, subst, arith}
use Rattle.std.proofs.lemmas.Bool.{cases_Bool, and_left, cond-true, cond-false, both_ways}
use Rattle.std.proofs.lemmas.Bool.{true≢false, and_parts, and_from, eq-eqb, ne_eqb, and_right}
use Rattle.std.proofs.lemmas.Option.{none-some}
use Rattle.pm_base.proofs.Sides.{stands_next, face_of-next}
use Rattle.pm_base.specs.Counts.{one_if}
use Rattle.pm_base.specs.Sides.{next, face_of, to, Stands}
use Rattle.pm_base.specs.declared.log.Gone.{Gone}
use Rattle.pm_beyond.specs.Walks.{mate_of, expected}
use Rattle.pm_forest.proofs.FaceNumbers.{first_face-mono, revealed-from, which_face}
use Rattle.pm_forest.proofs.Sides.{three_sides}
use Rattle.pm_forest.specs.Faces.{first_face, face_count, revealed_by, is_left, record_of, inner_of}
use Rattle.pm_forest.specs.Forest.{Hierarchy, record_at, record_count}
use Rattle.pm_forest.specs.Fronts.{below}
use Rattle.pm_forest.specs.declared.parts.NewFace.{NewFace}
use Rattle.pm_number.proofs.Renamed.{across-moved}
use Rattle.pm_number.proofs.RunLaws.{fresh-s, proper_after}
use Rattle.pm_firm.specs.Firm.{shown_net}
use Rattle.pm_number.specs.Shown.{SameGone, IsNumbered}
use Rattle.pm_number.specs.Stages.{side_moved, Run, steps, entry_at, net_of_run_after, IsGone}
use Rattle.pm_number.specs.Stages.{TellsWhatGoes, IsMerging, side_by}
use Rattle.pm_runs.proofs.Apart.{stays}
use Rattle.pm_runs.proofs.Sides.{third_next}
use Rattle.pm_runs.specs.Merged.{StandsAcross}
use Rattle.pm_runs.specs.Pairs.{Runs, HasSide, Links, IsPair}
use Rattle.pm_number.proofs.Stages.{side-face, side-turns}
use Rattle.pm_number.proofs.RecordFaces.{k_lt, map, expected-inner, expected-first, expected-second}
use Rattle.pm_number.proofs.RecordFaces.{InnerOf, left_inner, right_inner}

module _ {r : Run} {h : Hierarchy} {node leaf face : ℕ → ℕ} (run : IsMerging r)
    (num : IsNumbered r h node leaf face) where
  module _ (i k : ℕ) (is : i + suc k ≡ steps r) where
    gone-none : (f : ℕ) (g : Option Gone) (n : Option NewFace) → SameGone face f g n
        → is_some n ≡ false → g ≡ None
    gone-none f None n a z = refl
    gone-none f (Some g) None a z = absurd a
    gone-none f (Some g) (Some n) a z = absurd (true≢false z)

    none-gone : (p q : ℕ) (g : Option Gone) → g ≡ None → IsGone (net_of_run_after r i) p q g
        → HasSide (net_of_run_after r i) p q → ⊥
    none-gone p q None z a = a
    none-gone p q (Some g) z a = absurd (none-some g (sym z))

    logged : TellsWhatGoes (net_of_run_after r i) (entry_at r i)
    logged = run.logged i (omega arith)

    revealed_left : is_some (record_at h k).left ≡ true → (revealed_by h (first_face h k) ≡ Some k)
        × (first_face h k < face_count h) × (is_left h k (first_face h k) ≡ true)
    unfolding first_face is_left
    revealed_left t =
        let x = is_some (record_at h k).left in
        let y = is_some (record_at h k).right in
        let count : first_face h (suc k) ≡ first_face h k + one_if x + one_if y = refl in
        let one : one_if x ≡ 1 = ap one_if t in
        let top = first_face-mono h (suc k) (record_count h) (k_lt run num i k is) in (
          revealed-from h (first_face h k) k (k_lt run num i k is) (omega arith) (omega arith),
          omega arith,
          and_from x _ t (eq-eqb (first_face h k) (first_face h k) refl),
        )

    revealed_right : is_some (record_at h k).right ≡ true → let f =
        first_face h k + one_if (is_some (record_at h k).left) in
        (revealed_by h f ≡ Some k) × (f < face_count h) × (is_left h k f ≡ false)
    unfolding first_face is_left
    revealed_right t =
        let x = is_some (record_at h k).left in
        let y = is_some (record_at h k).right in
        let f = first_face h k + one_if x in
        let count : first_face h (suc k) ≡ first_face h k + one_if x + one_if y = refl in
        let one : one_if y ≡ 1 = ap one_if t in
        let top = first_face-mono h (suc k) (record_count h) (k_lt run num i k is) in (
          revealed-from h f k (k_lt run num i k is) (omega arith) (omega arith),
          omega arith,
          elim (cases_Bool x) [
            | inl a ↦ (let some : one_if x ≡ 1 =
                ap one_if a in and_right x _ (ne_eqb f (first_face h k) (omega arith)))
            | inr a ↦ and_left x _ a
          ],
        )

    -- across the inner side of one face stands the inner side of the other, or nothing
    mate-left : (f x : ℕ) → f < face_count h → revealed_by h f ≡ Some k → is_left h k f ≡ true
        → Runs (net_of_run_after r i) x (entry_at r i).t (entry_at r i).u
        → StandsAcross (shown_net h (below (suc k))) (side_by face x) (mate_of h k f)
    unfolding mate_of is_left
    mate-left f x l own left runs =
        let a = is_some (record_at h k).left in
        let b = is_some (record_at h k).right in
        let has : a ≡ true = (and_parts a _ left).0 in
        let one : one_if a ≡ 1 = ap one_if has in
        let f2 = first_face h k + 1 in
        let other : cond (is_left h k f) f2 (first_face h k) ≡ f2 =
        cond-true _ f2 (first_face h k) left in
        elim (cases_Bool b) [
          | inl t ↦
              let z : first_face h k + one_if a ≡ f2 = ap (λ n. first_face h k + n) one in
              let (own2, l2, left2) =
              subst (λ f. (revealed_by h f ≡ Some k) × (f < face_count h)
              × (is_left h k f ≡ false)) z (revealed_right t) in
              let w = right_inner run num i k is f2 l2 own2 left2 in
              let across : StandsAcross (net_of_run_after r i) x
              (Some w.x) = record {
                stands = w.runs.stands;
                begins = w.runs.begins ∙ sym runs.ends;
                ends = w.runs.ends ∙ sym runs.begins;
              } in
              subst (StandsAcross (shown_net h (below (suc k))) (side_by face x))
              (ap Some (sym w.is_inner ∙ ap (inner_of h k) (sym other))
              ∙ sym (cond-true (a && b)
              (Some (inner_of h k (cond (is_left h k f) f2 (first_face h k)))) None
              (and_from a b has t)))
              (across-moved (net_of_run_after r i) (shown_net h (below (suc k)))
              (λ e. side_by face e) node (map run num i k is) x (Some w.x)
              runs.stands.is_side across)
          | inr t ↦
              let none = none-gone _ _ (entry_at r i).right
              (gone-none _ (entry_at r i).right (record_at h k).right (num.right i k is) t)
              logged.right in
              let across : StandsAcross (net_of_run_after r i) x None =
              λ g w. none (
                g,
                record {
                  stands = w.stands;
                  begins = w.begins ∙ runs.ends;
                  ends = w.ends ∙ runs.begins;
                },
              ) in
              subst (StandsAcross (shown_net h (below (suc k))) (side_by face x))
              (sym (cond-false (a && b)
              (Some (inner_of h k (cond (is_left h k f) f2 (first_face h k)))) None
              (and_right a b t)))
              (across-moved (net_of_run_after r i) (shown_net h (below (suc k)))
              (λ e. side_by face e) node (map run num i k is) x None runs.stands.is_side across)
        ]

    mate-right : (f x : ℕ) → f < face_count h → revealed_by h f ≡ Some k → is_left h k f ≡ false
        → is_some (record_at h k).right ≡ true
        → Runs (net_of_run_after r i) x (entry_at r i).u (entry_at r i).t
        → StandsAcross (shown_net h (below (suc k))) (side_by face x) (mate_of h k f)
    unfolding mate_of
    mate-right f x l own left has runs =
        let a = is_some (record_at h k).left in
        let b = is_some (record_at h k).right in
        let f2 = first_face h k in
        let other : cond (is_left h k f) (first_face h k + 1) f2 ≡ f2 =
        cond-false _ (first_face h k + 1) f2 left in
        elim (cases_Bool a) [
          | inl t ↦
              let (own2, l2, left2) = revealed_left t in
              let w = left_inner run num i k is f2 l2 own2 left2 in
              let across : StandsAcross (net_of_run_after r i) x
              (Some w.x) = record {
                stands = w.runs.stands;
                begins = w.runs.begins ∙ sym runs.ends;
                ends = w.runs.ends ∙ sym runs.begins;
              } in
              subst (StandsAcross (shown_net h (below (suc k))) (side_by face x))
              (ap Some (sym w.is_inner ∙ ap (inner_of h k) (sym other))
              ∙ sym (cond-true (a && b)
              (Some (inner_of h k (cond (is_left h k f) (first_face h k + 1) f2))) None
              (and_from a b t has)))
              (across-moved (net_of_run_after r i) (shown_net h (below (suc k)))
              (λ e. side_by face e) node (map run num i k is) x (Some w.x)
              runs.stands.is_side across)
          | inr t ↦
              let none = none-gone _ _ (entry_at r i).left
              (gone-none _ (entry_at r i).left (record_at h k).left (num.left i k is) t)
              logged.left in
              let across : StandsAcross (net_of_run_after r i) x None =
              λ g w. none (
                g,
                record {
                  stands = w.stands;
                  begins = w.begins ∙ runs.ends;
                  ends = w.ends ∙ runs.begins;
                },
              ) in
              subst (StandsAcross (shown_net h (below (suc k))) (side_by face x))
              (sym (cond-false (a && b)
              (Some (inner_of h k (cond (is_left h k f) (first_face h k + 1) f2))) None
              (and_left a b t)))
              (across-moved (net_of_run_after r i) (shown_net h (below (suc k)))
              (λ e. side_by face e) node (map run num i k is) x None runs.stands.is_side across)
        ]

    right_there : (f : ℕ) → f < face_count h → revealed_by h f ≡ Some k → is_left h k f ≡ false
        → is_some (record_at h k).right ≡ true
    unfolding is_left
    right_there f l own left =
        grind (arith, common_steps, and_from, both_ways, eq-eqb, which_face)

    -- What is expected at each side of a face of record k stands across it
    outer-recorded : (e a b : ℕ) → e < 3 * face_count h → record_of h e ≡ Some k
        → (w : InnerOf run num i k is (face_of e) a b)
        → StandsAcross (shown_net h (below (suc k))) (side_by face w.x) (mate_of h k (face_of e))
        → StandsAcross (shown_net h (below (suc k))) e (expected h e)
    outer-recorded e a b l own w mate =
        let o = side_by face w.x in
        let n1 = stands_next (net_of_run_after r i) w.x w.runs.stands in
        let n2 = stands_next (net_of_run_after r i) (next w.x) n1 in
        elim (three_sides e o (sym w.face_is)) [
          | inl q ↦
              subst (StandsAcross (shown_net h (below (suc k))) e)
              (sym (expected-inner run num i k is e own (q ∙ sym w.is_inner)))
              (subst (λ g. StandsAcross (shown_net h (below (suc k))) g (mate_of h k (face_of e)))
              (sym q) mate)
          | inr which ↦
              elim which [
                | inl q ↦
                    let (c, c_is, across) = w.on_first _ refl in
                    let at : side_by face (next w.x) ≡ e = side-turns face w.x ∙ sym q in
                    subst (StandsAcross (shown_net h (below (suc k))) e)
                    (sym (expected-first run num i k is e own
                    (q ∙ ap next (sym w.is_inner)) ∙ c_is))
                    (subst (λ g. StandsAcross (shown_net h (below (suc k))) g
                    (side_moved (λ e. side_by face e) c)) at
                    (across-moved (net_of_run_after r i) (shown_net h (below (suc k)))
                    (λ e. side_by face e) node (map run num i k is) (next w.x) c n1.is_side across))
                | inr q ↦
                    let (c, c_is, across) = w.on_second _ refl in
                    let at : side_by face (next (next w.x)) ≡ e =
                    side-turns face (next w.x) ∙ ap next (side-turns face w.x) ∙ sym q in
                    subst (StandsAcross (shown_net h (below (suc k))) e)
                    (sym (expected-second run num i k is e own
                    (q ∙ ap (λ g. next (next g)) (sym w.is_inner)) ∙ c_is))
                    (subst (λ g. StandsAcross (shown_net h (below (suc k))) g
                    (side_moved (λ e. side_by face e) c)) at
                    (across-moved (net_of_run_after r i) (shown_net h (below (suc k)))
                    (λ e. side_by face e) node (map run num i k is)
                    (next (next w.x)) c n2.is_side across))
              ]
        ]

    pub recorded : (e : ℕ) → e < 3 * face_count h → record_of h e ≡ Some k
        → StandsAcross (shown_net h (below (suc k))) e (expected h e)
    recorded e l own =
        let f_lt : face_of e < face_count h = omega arith in
        elim (cases_Bool (is_left h k (face_of e))) [
          | inl left ↦
              (let w = left_inner run num i k is (face_of e) f_lt own left in
              outer-recorded e _ _ l own w (mate-left (face_of e) w.x f_lt own left w.runs))
          | inr left ↦
              (let w = right_inner run num i k is (face_of e) f_lt own left in
              outer-recorded e _ _ l own w
              (mate-right (face_of e) w.x f_lt own left (right_there (face_of e) f_lt own left)
              w.runs))
        ]

    -- a side over the pair is one of a face of record k
    gone-number : (p q x f : ℕ) (g : Option Gone) (n : Option NewFace)
        → IsGone (net_of_run_after r i) p q g → SameGone face f g n
        → Runs (net_of_run_after r i) x p q → (is_some n ≡ true) × (face_of (side_by face x) ≡ f)
    gone-number p q x f None n a b w = absurd (a (x, w))
    gone-number p q x f (Some g) None a b w = absurd b
    gone-number p q x f (Some g) (Some n) (e, runs, on, _, _) b w =
        let same = (proper_after r run i (omega arith)).once e x runs.stands w.stands (runs.begins
        ∙ sym w.begins) (runs.ends ∙ sym w.ends) in
        (refl, side-face face x ∙ ap (λ z. face (face_of z)) (sym same) ∙ ap face on ∙ b.0)

    reveals : (x : ℕ) → Links (net_of_run_after r i) x (entry_at r i).t (entry_at r i).u
        → revealed_by h (face_of (side_by face x)) ≡ Some k
    reveals x links =
        elim links [
          | inl w ↦
              let (has, on) = gone-number _ _ x _ (entry_at r i).left (record_at h k).left
              logged.left (num.left i k is) w in
              ap (λ f. revealed_by h f) on ∙ (revealed_left has).0
          | inr w ↦
              let (has, on) = gone-number _ _ x _ (entry_at r i).right (record_at h k).right
              logged.right (num.right i k is) w in
              ap (λ f. revealed_by h f) on ∙ (revealed_right has).0
        ]

    -- a face that stands and isn't of record k stands on
    pub stands_on : (e : ℕ) → Stands (net_of_run_after r i) e
        → record_of h (side_by face e) ≢ Some k → Stands (net_of_run_after r (suc i)) e
    stands_on e st n =
        let c = entry_at r i in
        let n1 = stands_next (net_of_run_after r i) e st in
        let n2 = stands_next (net_of_run_after r i) (next e) n1 in
        let near : (x p q : ℕ) → face_of x ≡ face_of e → Stands (net_of_run_after r i) x
        → IsPair c.t c.u p q → (net_of_run_after r i).from x ≡ p
        → to (net_of_run_after r i) x ≡ q → ⊥ =
        λ x p q on s pair b d.
        let links : Links (net_of_run_after r i) x c.t c.u =
        elim pair [
          | inl z ↦ inl (record { stands = s; begins = b ∙ z.0; ends = d ∙ z.1 })
          | inr z ↦ inr (record { stands = s; begins = b ∙ z.0; ends = d ∙ z.1 })
        ] in
        n (ap (λ f. revealed_by h f) (side-face face e ∙ ap face (sym on) ∙ sym (side-face face x))
        ∙ reveals x links) in
        stays (net_of_run_after r i) c.t c.u c.s (fresh-s r run i (omega arith)) e st
        (λ z. near e _ _ refl st z refl refl)
        (λ z. near (next e) _ _ (face_of-next e) n1 z refl refl)
        (λ z. near (next (next e)) _ _ (face_of-next (next e) ∙ face_of-next e) n2 z refl
        (third_next (net_of_run_after r i) e))
