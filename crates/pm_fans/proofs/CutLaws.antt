-- Sides that are cut open, by the map of all sides by their ends.
use Rattle.std.proofs.Common.{◌≡◌, ◌≢◌, ℕ, ◌+◌, ◌<◌, ◌≤◌, eqb, ltb, Bool, true, false}
use Rattle.std.proofs.lemmas.Grind.{common_steps}
use Rattle.std.proofs.Common.{◌&&◌, inl, inr, sym, ◌∙◌, subst, Option, Some, None, arith}
use Rattle.std.proofs.lemmas.Bool.{eqb-true, eq-eqb, and_parts}
use Rattle.std.proofs.lemmas.Bool.{and_from, ltb-true, lt-ltb, false_from_ne_true}
use Rattle.std.specs.Int.{from_bool}
use Rattle.pm_base.specs.Counts.{count}
use Rattle.pm_base.specs.Sides.{Net, side_count, to, stands}
use Rattle.pm_base.proofs.Counts.{count-true, count-false}
use Rattle.pm_base.proofs.Counted.{count_never, count_most_one, count_several}
use Rattle.pm_base.proofs.TwinLaws.{stands_is_true}
use Rattle.pm_fans.specs.Splits.{IsCuttable}
use Rattle.pm_fans.specs.Ends.{ends_key, ends_key_at, IsNoted}
use Rattle.pm_fans.specs.Cuts.{side_runs, is_cut}
use Rattle.pm_fans.proofs.GlueLaws.{runs_between, key_is}

module _ (m : Net) (ok : IsCuttable m) (p q : ℕ) (low : q < 4294967296) where
  runs_true : (e : ℕ) → e < side_count m → ends_key_at m e ≡ ends_key p q → side_runs m p q e ≡ true
  runs_true e l is =
      let at = runs_between m ok e p q l low is in
      and_from (stands m e) (eqb (m.from e) p && eqb (to m e) q) (stands_is_true m e (ok.stand e l))
      (and_from (eqb (m.from e) p) (eqb (to m e) q) (eq-eqb (m.from e) p at.0)
      (eq-eqb (to m e) q at.1))

  true_runs : (e : ℕ) → side_runs m p q e ≡ true → ends_key_at m e ≡ ends_key p q
  true_runs e is = grind (arith, common_steps, and_parts, eqb-true, key_is)

  not_many : count (side_runs m p q) (side_count m) ≤ 1
      → ltb 1 (count (side_runs m p q) (side_count m)) ≡ false
  not_many le =
      false_from_ne_true (ltb 1 (count (side_runs m p q) (side_count m))) (λ e. let more =
      ltb-true 1 (count (side_runs m p q) (side_count m)) e in absurd (omega arith))

  pub many_none : (r : Option ℕ) → IsNoted m (side_count m) (ends_key p q) r → r ≡ None
      → ltb 1 (count (side_runs m p q) (side_count m)) ≡ false
  many_none r h is =
      grind (arith, common_steps, not_many, true_runs, count_never (side_runs m p q) (side_count m))

  pub many_some : (r : Option ℕ) (v : ℕ) → IsNoted m (side_count m) (ends_key p q) r → r ≡ Some v
      → ltb 1 (count (side_runs m p q) (side_count m)) ≡ eqb v 4294967295
  many_some r v h is =
      elim (subst (IsNoted m (side_count m) (ends_key p q)) is h) [
        | inl a ↦
            let one = count_most_one (side_runs m p q) (side_count m) v
            (λ e l t. a.alone e l (true_runs e t)) in
            let l = a.in_range in
            let few = ok.short in
            let ne : v ≢ 4294967295 = omega arith in
            not_many one
            ∙ sym (false_from_ne_true (eqb v 4294967295) (λ e. ne (eqb-true v 4294967295 e)))
        | inr s ↦
            let two = count_several (side_runs m p q) (side_count m) s.one s.other s.one_in
            s.other_in
            s.differ (runs_true s.one s.one_in s.one_has)
            (runs_true s.other s.other_in s.other_has) in
            lt-ltb 1 (count (side_runs m p q) (side_count m)) two ∙ sym (eq-eqb v 4294967295 s.mark)
      ]

pub cut_here : (m : Net) (p q e : ℕ) (a b : Bool) → p ≡ m.from e → q ≡ to m e
    → a ≡ ltb 1 (count (side_runs m p q) (side_count m)) → a ≡ false
    → b ≡ ltb 1 (count (side_runs m q p) (side_count m)) → b ≡ is_cut m e
unfolding is_cut
cut_here m p q e a b pe qe along none back = grind (arith, common_steps)

pub bit_le : (b : Bool) → from_bool b ≤ 1
bit_le true = omega arith
bit_le false = omega arith

pub cut_more : (m : Net) (n c d : ℕ) (b : Bool) → c ≡ count (is_cut m) n → d ≡ from_bool b
    → b ≡ is_cut m n → c + d ≡ count (is_cut m) (n + 1)
cut_more m n c d b so_far bit is =
    grind (arith, common_steps, count-false (is_cut m) n, count-true (is_cut m) n)
