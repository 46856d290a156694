-- The list of kept faces after a legal move, and which faces it has.
use Rattle.std.proofs.Common.{◌≡◌, ℕ, ◌+◌, ◌-◌, ◌*◌, ◌<◌, ◌≤◌, Bool, true, false, Some, List, ◌++◌}
use Rattle.std.proofs.Common.{length, filter, inl, inr, sym, ◌∙◌, arith}
use Rattle.std.specs.List.{range_with_len}
use Rattle.std.proofs.lemmas.Bool.{both_ways, false_from_ne_true}
use Rattle.pm_links.specs.Lists.{has}
use Rattle.pm_forest.specs.Forest.{Hierarchy, record_count}
use Rattle.pm_forest.specs.Fronts.{IsFront, with, without as less}
use Rattle.pm_forest.specs.Faces.{first_face, face_count, record_of, IsForest}
use Rattle.pm_forest.specs.Kept.{is_kept, is_shown}
use Rattle.pm_forest.proofs.OneStep.{with-same}
use Rattle.pm_forest.proofs.Shown.{kept-shown, shown_record, shown_with, shown_with-parts}
use Rattle.pm_forest.proofs.Shown.{shown_without, shown_without-parts}
use Rattle.pm_beyond.proofs.PlanLists.{same_bools}
use Rattle.pm_front.specs.Active.{AreShown}
use Rattle.pm_front.specs.Corners.{is_not_between}
use Rattle.pm_front.specs.Members.{AreSameNumbers}
use Rattle.pm_front.specs.Shown.{kept_faces, NonePasses, IsLeastFrom}
use Rattle.pm_front.proofs.Counting.{least_same, none_same}
use Rattle.pm_front.proofs.MemberLaws.{as_many}
use Rattle.pm_front.proofs.RangeLaws.{put_parts, put_new, put_old, out_parts, out_from}
use Rattle.pm_sides.proofs.RecordSides.{corner_of-record, record-corner_of}

-- ---- the faces of a record

own_face : (h : Hierarchy) (k f : ℕ) → k < record_count h → first_face h k ≤ f
    → f < first_face h (k + 1) → (f < face_count h) × (record_of h (3 * f) ≡ Some k)
own_face h k f l low high = let p = corner_of-record h k (3 * f) l (omega arith) (omega arith) in
    (omega (arith, p.0), p.1)

face_own : (h : Hierarchy) (k f : ℕ) → f < face_count h → record_of h (3 * f) ≡ Some k
    → (first_face h k ≤ f) × (f < first_face h (k + 1))
face_own h k f l own = let p = record-corner_of h k (3 * f) (omega arith) own in
    (omega (arith, p.0), omega (arith, p.1))

module _ (h : Hierarchy) (T : ℕ → Bool) (k : ℕ) (k_lt : k < record_count h) (from until : ℕ)
    (from_is : from ≡ first_face h k) (until_is : until ≡ first_face h (k + 1)) (xs : List ℕ)
    (right : AreShown h T xs) where
  own : (f : ℕ) → from ≤ f → f < until → (f < face_count h) × (record_of h (3 * f) ≡ Some k)
  own f low high = own_face h k f k_lt (omega arith) (omega arith)

  outside : (f : ℕ) → (record_of h (3 * f) ≡ Some k → ⊥) → from ≤ f → f < until → ⊥
  outside f other low high = other (own f low high).1

  -- just before a move
  pub own_absent : T k ≡ false → (f : ℕ) → from ≤ f → f < until → has xs f ≡ false
  own_absent unsplit f low high =
      false_from_ne_true (has xs f)
      (λ t. both_ways (T k) unsplit (sym (shown_record h T (3 * f) k (own f low high).1)
      ∙ ((right.each f).0 t).1))

  pub own_there : T k ≡ true → (f : ℕ) → from ≤ f → f < until → has xs f ≡ true
  own_there split f low high = let p =
      own f low high in (right.each f).1 (p.0, shown_record h T (3 * f) k p.1 ∙ split)

  -- and after it
  pub split-shown : (new : List ℕ) → AreSameNumbers new (range_with_len from (until - from) ++ xs)
      → AreShown h (with T k) new
  split-shown new are = record {
    each = λ f. (
      λ t. elim (put_parts from until xs new are f t) [
        | inl r ↦ (let p =
            own f r.0 r.1 in (p.0, shown_record h (with T k) (3 * f) k p.1 ∙ with-same T k))
        | inr old ↦ (let p = (right.each f).0 old in (p.0, shown_with h T k (3 * f) p.1))
      ],
      λ (l, shown). elim (shown_with-parts h T k (3 * f) shown) [
        | inl mine ↦
            (let p = face_own h k f l mine in
            put_new from until xs new are f (omega (arith, p.0)) (omega (arith, p.1)))
        | inr old ↦ put_old from until xs new are f ((right.each f).1 (l, old))
      ],
    );
    once = are.once;
  }

  pub collapse-shown : (new : List ℕ) → AreSameNumbers new (filter (is_not_between from until) xs)
      → AreShown h (less T k) new
  collapse-shown new are = record {
    each = λ f. (
      λ t.
          let p = out_parts from until xs new are f t in
          let q = (right.each f).0 p.1 in (
            q.0,
            shown_without h T k (3 * f) (λ mine. let r = face_own h k f q.0 mine in
                p.0 (omega (arith, r.0)) (omega (arith, r.1))) q.1,
          ),
      λ (l, shown).
          let p = shown_without-parts h T k (3 * f) shown in
          out_from from until xs new are f (outside f p.0) ((right.each f).1 (l, p.1)),
    );
    once = are.once;
  }

-- ---- which faces are in the list of a front

module _ (h : Hierarchy) (tree : IsForest h) (T : ℕ → Bool) (front : IsFront h T) (xs : List ℕ)
    (right : AreShown h T xs) where
  pub listed_kept : (f : ℕ) → f < face_count h → has xs f ≡ is_kept h T f
  listed_kept f l =
      same_bools (has xs f) (is_shown h T (3 * f)) (λ t. ((right.each f).0 t).1)
      (λ shown. (right.each f).1 (l, shown))
      ∙ sym (kept-shown h tree T front f l)

  pub kept-many : length xs ≡ length (kept_faces h T)
  kept-many = as_many (is_kept h T) (face_count h) xs right.once (λ f. (
    λ t. (let p = (right.each f).0 t in (p.0, kept-shown h tree T front f p.0 ∙ p.1)),
    λ (l, kept). (right.each f).1 (l, sym (kept-shown h tree T front f l) ∙ kept),
  ))

  -- the least of them from a on
  pub least_kept : (a bound : ℕ) → bound ≡ face_count h → (f : ℕ) → f < bound
      → IsLeastFrom (has xs) a f → IsLeastFrom (is_kept h T) a f
  least_kept a bound all f l =
      least_same (has xs) (is_kept h T) (face_count h) a f listed_kept (omega (arith, all, l))

  pub none_kept : (a bound : ℕ) → bound ≡ face_count h → NonePasses (has xs) a bound
      → NonePasses (is_kept h T) a (face_count h)
  none_kept a bound all none =
      none_same (has xs) (is_kept h T) (face_count h) a listed_kept
      (λ f low high. none f low (omega (arith, all, high)))
