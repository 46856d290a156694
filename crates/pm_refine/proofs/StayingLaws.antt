-- Whether the record that is next is in the target.
use Rattle.std.proofs.Common.{◌≡◌, ℕ, suc, true, false, ◌||◌, not, inl, inr, arith}
use Rattle.std.proofs.lemmas.Bool.{cases_Bool, both_ways, and_parts, and_from, or_cases}
use Rattle.std.proofs.lemmas.Bool.{or_left, or_right, not-true, not_from_false, false_from_ne_true}
use Rattle.pm_base.specs.Counts.{set_of}
use Rattle.pm_forest.specs.Forest.{record_count, s_of}
use Rattle.pm_beyond.proofs.PlanLists.{same_bools}
use Rattle.pm_beyond.proofs.Standing.{needs-older}
use Rattle.pm_beyond.proofs.TargetLaws.{target-least}
use Rattle.pm_refine.specs.Aims.{Aim, IsFit, Sets, aimed}
use Rattle.pm_candidates.specs.Needed.{is_needed, remaining}
use Rattle.pm_refine.specs.Deciding.{IsNext, is_staying}
use Rattle.pm_refine.proofs.SetLaws.{gone-parts, gone-from}
use Rattle.pm_candidates.proofs.NeededLaws.{needed-parts, needed-from}
use Rattle.pm_refine.proofs.NeedLaws.{target_cause}

module _ {aim : Aim} (fit : IsFit aim) where
  -- What will be collapsed is split, and the next record isn't among it.
  pub collapses_split : {k : ℕ} {held : Sets} → IsNext aim k held → (j : ℕ)
      → set_of held.collapses j ≡ true → aim.split j ≡ true
  collapses_split {k} {held} n j t =
      (gone-parts (record_count aim.h) aim.split (aimed aim) (suc k) held.splits held.collapses
      n.to_do j t).1

  pub next_absent : {k : ℕ} {held : Sets} → IsNext aim k held → set_of held.collapses k ≡ false
  next_absent {k} {held} n =
      false_from_ne_true (set_of held.collapses k) (λ t. let l =
      (gone-parts (record_count aim.h) aim.split (aimed aim) (suc k) held.splits held.collapses
      n.to_do k t).0 in omega arith)

  -- It is in the target where it isn't split, where it is marked, where a record that isn't gone
  -- needs it, and where its node is wanted.
  pub stays_is : {k : ℕ} {held : Sets} → IsNext aim k held → is_staying aim held k ≡ aimed aim k
  stays_is {k} {held} n =
      let l = n.is_record in
      let T = remaining aim.split (set_of held.collapses) in
      let least = target-least aim.h fit.valid.shape aim.wanted in
      let x = set_of held.marks k in
      let y = is_needed aim.h T k in
      let z = aim.wanted (s_of aim.h k) in
      same_bools (not (aim.split k) || (x || (y || z))) (aimed aim k)
      (λ t. elim (or_cases (not (aim.split k)) (x || (y || z)) t) [
        | inl u ↦ elim n.itself [
          | inl s ↦ absurd (both_ways _ (not-true (aim.split k) u) s)
          | inr g ↦ g
        ]
        | inr u ↦
            elim (or_cases x (y || z) u) [
              | inl m ↦ n.sound k m
              | inr v ↦
                  elim (or_cases y z v) [
                    | inr w ↦ least.takes k l w
                    | inl w ↦
                        let (i, i_lt, a, need) = needed-parts aim.h T k w in
                        let p = and_parts (aim.split i) (not (set_of held.collapses i)) a in
                        let older = needs-older aim.h fit.valid.shape i k i_lt need in
                        elim (cases_Bool (aimed aim i)) [
                          | inl g ↦ least.closed i k i_lt g need
                          | inr g ↦ absurd
                              (both_ways _ (not-true (set_of held.collapses i) p.1)
                              (gone-from (record_count aim.h) aim.split (aimed aim) (suc k)
                              held.splits held.collapses n.to_do i (omega arith) i_lt p.0 g))
                        ]
                  ]
            ]
      ])
      (λ g. elim (cases_Bool (aim.split k)) [
        | inr f ↦ or_left (not (aim.split k)) (x || (y || z)) (not_from_false (aim.split k) f)
        | inl s ↦
            or_right (not (aim.split k)) (x || (y || z))
            (elim (target_cause aim.h fit.valid.shape aim.wanted k l g) [
              | inl w ↦ or_right x (y || z) (or_right y z w)
              | inr some ↦
                  let (i, i_lt, u, need) = some in
                  let older = needs-older aim.h fit.valid.shape i k i_lt need in
                  elim (cases_Bool (aim.split i)) [
                    | inr f ↦ or_left x (y || z) (n.all i k older i_lt u f need (omega arith))
                    | inl t ↦
                        let there : set_of held.collapses i ≡ false =
                        false_from_ne_true (set_of held.collapses i)
                        (λ a. both_ways _
                        (gone-parts (record_count aim.h) aim.split (aimed aim) (suc k)
                        held.splits held.collapses n.to_do i a).2 u) in
                        or_right x (y || z)
                        (or_left y z
                        (needed-from aim.h T i k i_lt
                        (and_from (aim.split i) (not (set_of held.collapses i)) t
                        (not_from_false (set_of held.collapses i) there)) need))
                  ]
            ])
      ])
