-- The tests of nodes, counted: over the split records that no split record needs, the other split
-- ones, and those of which a move is made.
use Rattle.std.proofs.Common.{◌≡◌, ℕ, ◌+◌, ◌≤◌, true, false, ◌&&◌, ◌||◌, not, inl, inr}
use Rattle.std.proofs.Common.{sym, ap, ◌∙◌, arith}
use Rattle.std.proofs.lemmas.Bool.{cases_Bool, both_ways, and_parts, and_from, or_left, or_right}
use Rattle.std.proofs.lemmas.Bool.{or_from, not-true, not_from_false, not_from_true}
use Rattle.pm_base.specs.Counts.{count, one_if, set_of}
use Rattle.pm_base.proofs.Counts.{count_more}
use Rattle.pm_refine.proofs.CountLaws.{count_apart}
use Rattle.pm_forest.specs.Forest.{record_count, s_of}
use Rattle.pm_beyond.specs.Plans.{less}
use Rattle.pm_beyond.proofs.TargetLaws.{target-least}
use Rattle.pm_refine.specs.Aims.{Aim, IsFit, Sets, aimed, is_moved, is_used}
use Rattle.pm_refine.specs.Finding.{is_due}
use Rattle.pm_candidates.specs.Needed.{is_needed, is_unneeded}
use Rattle.pm_refine.specs.Deciding.{IsNext, is_held, is_tested}
use Rattle.pm_refine.proofs.StayingLaws.{stays_is}

module _ {aim : Aim} (fit : IsFit aim) where
  -- A test is made of a record that isn't needed any more; either it was needed before, or it goes.
  tested : {k : ℕ} {held : Sets} → IsNext aim k held → aim.split k ≡ true
      → set_of held.marks k ≡ false → is_held aim held k ≡ false
      → 1 ≤ one_if (is_used aim k) + one_if (is_moved aim k)
  tested {k} {held} n s m f =
      elim (cases_Bool (is_unneeded aim.h aim.split k)) [
        | inr t ↦ (let a =
            ap one_if (and_from (aim.split k) (not (is_unneeded aim.h aim.split k)) s
            (not_from_false (is_unneeded aim.h aim.split k) t)) in omega arith)
        | inl t ↦
            elim (n.tried_itself s) [
              | inl u ↦ absurd (both_ways _ m u)
              | inr u ↦
                  elim u [
                    | inl v ↦ absurd (both_ways _ v t)
                    | inr v ↦
                        let x = is_held aim held k in
                        let none : aimed aim k ≡ false = sym (stays_is fit n)
                        ∙ or_from (not (aim.split k))
                        (set_of held.marks k || (x || aim.wanted (s_of aim.h k)))
                        (not_from_true (aim.split k) s)
                        (or_from (set_of held.marks k) (x || aim.wanted (s_of aim.h k)) m
                        (or_from x (aim.wanted (s_of aim.h k)) f v)) in
                        let a = ap one_if
                        (or_left (less aim.split (aimed aim) k) (less (aimed aim) aim.split k)
                        (and_from (aim.split k) (not (aimed aim k)) s
                        (not_from_false (aimed aim k) none))) in
                        omega arith
                  ]
            ]
      ]

  -- What was found is made a move of.
  pub due_few : count (is_due aim) (record_count aim.h) ≤ count (is_moved aim) (record_count aim.h)
  due_few =
      let T = aimed aim in
      count_more (is_due aim) (is_moved aim) (record_count aim.h) (λ j l d.
      let p = and_parts (aim.wanted (s_of aim.h j)) (not (aim.split j)) d in
      or_right (less aim.split T j) (less T aim.split j)
      (and_from (T j) (not (aim.split j))
      ((target-least aim.h fit.valid.shape aim.wanted).takes j l p.0) p.1))

  -- Those that no split record needs and the others are the split ones.
  pub unneeded_and_others : count (is_unneeded aim.h aim.split) (record_count aim.h)
      + count (is_used aim) (record_count aim.h)
      ≤ count aim.split (record_count aim.h)
  unneeded_and_others =
      let n = record_count aim.h in
      count_apart (is_unneeded aim.h aim.split) (is_used aim) aim.split n
      (λ j t. (and_parts (aim.split j) (not (is_needed aim.h aim.split j)) t).0)
      (λ j t. (and_parts (aim.split j) (not (is_unneeded aim.h aim.split j)) t).0)
      (λ j t u. both_ways _
      (not-true (is_unneeded aim.h aim.split j)
      (and_parts (aim.split j) (not (is_unneeded aim.h aim.split j)) u).1) t)

  -- The tests of a record are paid for.
  pub paid : {k : ℕ} {held : Sets} → IsNext aim k held
      → one_if (is_tested aim held k) ≤ one_if (is_used aim k) + one_if (is_moved aim k)
  paid {k} {held} n =
      elim (cases_Bool (is_tested aim held k)) [
        | inr f ↦ (let a = ap one_if f in omega arith)
        | inl t ↦
            let x = not (set_of held.marks k) in
            let y = not (is_held aim held k) in
            let p = and_parts (aim.split k) (x && y) t in
            let q = and_parts x y p.1 in
            let a = ap one_if t in
            let b = tested n p.0 (not-true (set_of held.marks k) q.0)
            (not-true (is_held aim held k) q.1) in
            omega arith
      ]
