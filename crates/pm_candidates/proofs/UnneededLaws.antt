-- The records that no record needs, once a record is split or collapsed, and in the base front.
use Rattle.std.proofs.Common.{◌≡◌, ℕ, ◌+◌, ◌<◌, eqb, Bool, true, false, not, ◌&&◌, ◌||◌, List}
use Rattle.std.proofs.Common.{length, get_or, replicate, Option, inl, inr, refl, sym, ap, ◌∙◌}
use Rattle.std.proofs.Common.{arith}
use Rattle.std.proofs.Math.Path.{fun_ext}
use Rattle.std.proofs.Math.ListN.{set, length-set}
use Rattle.std.proofs.lemmas.Bool.{cases_Bool, cases_eq, and_from, and_left, not_from_false}
use Rattle.std.proofs.lemmas.Bool.{both_ways, false_from_ne_true, eq-eqb, ne_eqb, cond-true}
use Rattle.std.proofs.lemmas.Bool.{cond-false}
use Rattle.std.proofs.lemmas.List.{length-replicate, get_or-replicate, get_or-set_other}
use Rattle.std.proofs.lemmas.Grind.{get_or-set_at, common_steps}
use Rattle.pm_forest.specs.Forest.{Hierarchy, record_count}
use Rattle.pm_forest.specs.Fronts.{with, without, no_records}
use Rattle.pm_forest.specs.Rules.{HasShape}
use Rattle.pm_beyond.specs.Moves.{IsClosed, needs}
use Rattle.pm_beyond.proofs.Outer.{needs-true}
use Rattle.pm_beyond.proofs.PlanSteps.{without-same}
use Rattle.pm_candidates.specs.Needed.{times_in, times_needed, need_count, is_needed, is_unneeded}
use Rattle.pm_candidates.specs.Needed.{AreNeedCounts}
use Rattle.pm_candidates.specs.Candidates.{is_among, is_freed, AreAnswers, AreCleared, AreAdded}
use Rattle.pm_candidates.proofs.TimesLaws.{times_needed-none}
use Rattle.pm_candidates.proofs.NeedCountLaws.{need_count-unneeded, unneeded-count, zero_test}
use Rattle.pm_candidates.proofs.NeedCountLaws.{need_count-with}
use Rattle.pm_candidates.proofs.NeededLaws.{not_own, none_needs}
use Rattle.pm_candidates.proofs.NeedFlags.{sum_zero}

-- Tests
-- c: the record is split; x: no other record needs it; y: this one doesn't
need_more : (c x y : Bool) → ((c && x) && not (not y)) ≡ (c && (x && y))
need_more false x y = refl
need_more true false y = refl
need_more true true true = refl
need_more true true false = refl

need_less : (c x y : Bool) → (y ≡ false → c ≡ true) → ((c && (x && y)) || (not y && x)) ≡ (c && x)
need_less true true true f = refl
need_less true false true f = refl
need_less false x true f = refl
need_less true true false f = refl
need_less true false false f = refl
need_less false x false f = absurd (both_ways false refl (f refl))

-- Sets with a record taken out, and put back
pub with-without : (T : ℕ → Bool) (k : ℕ) → T k ≡ true → with (without T k) k ≡ T
with-without T k split = grind (arith, common_steps, cond-false, cond-true, eq-eqb, fun_ext, ne_eqb)

module _ (h : Hierarchy) (shape : HasShape h) where
  module _ (T : ℕ → Bool) (closed : IsClosed h T) (k : ℕ) (l : k < record_count h) where
    module _ (unsplit : T k ≡ false) where
      -- Once record k is split
      pub unneeded-with : (old a : List Bool) (needed : List (Option ℕ))
          → ((j : ℕ) → times_in j needed ≡ times_needed h k j) → AreAnswers h (is_unneeded h T) old
          → AreCleared old a (is_among needed)
          → AreAnswers h (is_unneeded h (with T k)) (set a k true)
      unneeded-with old a needed times are cleared =
          let len : length a ≡ record_count h = cleared.len ∙ are.len in
          record {
            len = length-set a k true ∙ len;
            each = λ j j_lt.
                let here = eqb (need_count h T j) 0 in
                let there = eqb (times_in j needed) 0 in
                elim (cases_eq j k) [
                  | inl is ↦
                      let own : times_needed h k k ≡ 0 =
                      times_needed-none h k k l
                      (false_from_ne_true (needs h k k)
                      (λ e. not_own h shape k l (needs-true h k k l e))) in
                      let none = need_count-with h T k unsplit k l
                      ∙ ap (λ n. need_count h T k + n) own in
                      let zero : need_count h (with T k) k ≡ 0 =
                      omega (
                        arith,
                        none,
                        need_count-unneeded h T k
                            (none_needs h T closed k unsplit),
                      ) in
                      get_or-set_at a k j true false is (omega (arith, len))
                      ∙ sym (and_from (with T k j) (not (is_needed h (with T k) j))
                      (cond-true (eqb j k) true (T j) (eq-eqb j k is))
                      (not_from_false (is_needed h (with T k) j)
                      (unneeded-count h (with T k) j (ap (need_count h (with T k)) is ∙ zero))))
                  | inr other ↦
                      get_or-set_other a k j true false other
                      ∙ cleared.each j (omega (arith, are.len))
                      ∙ ap (λ o. o && not (not there)) (are.each j j_lt
                      ∙ ap (λ n. T j && n) (sym (zero_test h T j)))
                      ∙ need_more (T j) here there
                      ∙ ap (λ n. T j && n) (sym (sum_zero (need_count h T j) (times_in j needed)))
                      ∙ ap (λ (n : ℕ). T j && eqb (need_count h T j + n) 0) (times j)
                      ∙ ap (λ (n : ℕ). T j && eqb n 0) (sym (need_count-with h T k unsplit j l))
                      ∙ ap (λ n. T j && n) (zero_test h (with T k) j)
                      ∙ ap (λ o. o && not (is_needed h (with T k) j))
                      (sym (cond-false (eqb j k) true (T j) (ne_eqb j k other)))
                ];
          }

    module _ (split : T k ≡ true) where
      counted : (j : ℕ) → need_count h T j ≡ need_count h (without T k) j + times_needed h k j
      counted j = ap (λ S. need_count h S j) (sym (with-without T k split))
          ∙ need_count-with h (without T k) k (without-same T k) j l

      needed_split : (j : ℕ) → j < record_count h → eqb (times_needed h k j) 0 ≡ false → T j ≡ true
      needed_split j j_lt e =
          elim (cases_Bool (needs h k j)) [
            | inl yes_needs ↦ closed k j l split (needs-true h k j l yes_needs)
            | inr not_needed ↦
                absurd (both_ways (eqb (times_needed h k j) 0) e
                (eq-eqb (times_needed h k j) 0 (times_needed-none h k j l not_needed)))
          ]

      -- Once it is collapsed
      pub unneeded-without : (old a : List Bool) (needed : List (Option ℕ))
          → ((j : ℕ) → times_in j needed ≡ times_needed h k j) → (counts : List ℕ) →
          AreNeedCounts h (without T k) counts → AreAnswers h (is_unneeded h T) old
          → AreAdded old a (is_freed needed counts)
          → AreAnswers h (is_unneeded h (without T k)) (set a k false)
      unneeded-without old a needed times counts right are added =
          let len : length a ≡ record_count h = added.len ∙ are.len in
          record {
            len = length-set a k false ∙ len;
            each = λ j j_lt.
                let here = eqb (need_count h (without T k) j) 0 in
                let there = eqb (times_in j needed) 0 in
                elim (cases_eq j k) [
                  | inl is ↦ grind (arith, common_steps, and_left, cond-true, eq-eqb, get_or-set_at)
                  | inr other ↦
                      let was : is_unneeded h T j ≡ (T j && (here && there)) =
                      ap (λ n. T j && n) (sym (zero_test h T j))
                      ∙ ap (λ (n : ℕ). T j && eqb n 0)
                      (counted j ∙ ap (λ n. need_count h (without T k) j + n) (sym (times j)))
                      ∙ ap (λ n. T j && n)
                      (sum_zero (need_count h (without T k) j) (times_in j needed)) in
                      get_or-set_other a k j false false other
                      ∙ added.each j (omega (arith, are.len))
                      ∙ ap (λ o. o || (not there && eqb (get_or counts j 0) 0)) (are.each j j_lt
                      ∙ was)
                      ∙ ap (λ (n : ℕ). (T j && (here && there)) || (not there && eqb n 0))
                      (right.each j j_lt)
                      ∙ need_less (T j) here there
                      (λ e. needed_split j j_lt (ap (λ (n : ℕ). eqb n 0) (sym (times j)) ∙ e))
                      ∙ ap (λ n. T j && n) (zero_test h (without T k) j)
                      ∙ ap (λ o. o && not (is_needed h (without T k) j))
                      (sym (cond-false (eqb j k) false (T j) (ne_eqb j k other)))
                ];
          }

-- The base front: no record is unneeded.
pub unneeded-none : (h : Hierarchy)
    → AreAnswers h (is_unneeded h no_records) (replicate (record_count h) false)
unneeded-none h = grind (arith, common_steps, get_or-replicate, length-replicate)
