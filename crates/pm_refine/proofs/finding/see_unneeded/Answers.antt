use Rattle.std.proofs.Common.{◌≡◌, ◌+◌, suc, not, Bool, List, sym, ap, subst, ◌∙◌, arith}
use Rattle.std.proofs.lemmas.Bool.{and_from, and_left, and_right, not_from_false, not_from_true}
use Rattle.pm_base.specs.Counts.{count, set_of}
use Rattle.pm_base.proofs.Counts.{count-true}
use Rattle.pm_forest.specs.Forest.{record_count, s_of}
use Rattle.pm_candidates.specs.Needed.{is_unneeded}
use Rattle.pm_refine.specs.Aims.{aim_of}
use Rattle.pm_refine.specs.Holding.{HoldsBelow}
use Rattle.pm_refine.specs.Finding.{is_loose}
use Rattle.pm_refine.proofs.CountLaws.{count_up}
use Rattle.pm_sets.proofs.FlagLaws.{in_below}
use Rattle.pm_refine.proofs.SetLaws.{holds_up, holds_next, holds_past, next_there, none_skipped}
use Rattle.pm_refine.proofs.FindingLaws.{records_few}
use Rattle.pm_refine.proofs.finding.see_unneeded.Goals as goal
use Rattle.pm_refine.proofs.finding.see_unneeded.Goals.{then-not-wants, else-not-wants}

pub overflow_add-from : goal.overflow_add-from
overflow_add-from g c =
    let few = records_few c.args.sight.now.front.now.h c.invariant.ensures.valid.shape in
    let low = in_below c.unneeded.result.now c.in-Some.k c.in-Some.ensures.some.there in
    let len = c.unneeded.ensures.len in
    omega arith

pub loop-k-preserved : goal.loop-k-preserved
loop-k-preserved g c =
    let aim = aim_of c.args.sight.now in
    let n = record_count aim.h in
    let k = c.in-Some.k in
    let flags = c.loop-k.work in
    let test = is_unneeded aim.h aim.split in
    let found = is_loose aim in
    let first = c.in-Some.ensures.some in
    let next = next_there n test c.unneeded.result.now c.unneeded.ensures.len
    c.unneeded.ensures.each c.loop-k.from k first in
    let none = none_skipped n test c.unneeded.result.now c.unneeded.ensures.len
    c.unneeded.ensures.each c.loop-k.from k first in
    let up = holds_up n found c.loop-k.from k flags first.from c.loop-k.invariant.loose
    (λ j low high. and_left (test j) (not (aim.wanted (s_of aim.h j))) (none j low high)) in
    let answer : c.wants.result ≡ aim.wanted (s_of aim.h k) = c.wants.ensures.value in
    let ahead = first.from in
    let low = next.0 in
    let more = count_up test c.loop-k.from k ahead in
    let one = count-true test k next.1 in
    let after : k + 1 ≡ suc k = omega arith in
    let at = ap (count test) after in
    let cost = c.wants.ensures.cost in
    let before = c.loop-k.invariant.cost in
    record {
      most = omega arith;
      loose = elim c.if-not-wants.branch [
        | then-not-wants w ↦
            subst (λ (m : List Bool). HoldsBelow n found (k + 1) m)
            (sym (w.work-is ∙ w.insert.ensures))
            (holds_next n found k flags low up
            (and_from (test k) (not (aim.wanted (s_of aim.h k))) next.1
            (not_from_false (aim.wanted (s_of aim.h k)) (sym answer ∙ w.if-not-wants.true))))
        | else-not-wants w ↦
            subst (λ (m : List Bool). HoldsBelow n found (k + 1) m) (sym w.work-is)
            (holds_past n found k flags up
            (and_right (test k) (not (aim.wanted (s_of aim.h k)))
            (not_from_true (aim.wanted (s_of aim.h k)) (sym answer ∙ w.if-not-wants.false))))
      ];
      cost = omega arith;
    }

pub returns-clause-cost : goal.returns-clause-cost
returns-clause-cost g c =
    let up = count_up
    (is_unneeded c.args.sight.now.front.now.h (set_of c.args.sight.now.front.now.flags))
    c.loop-k.from (record_count c.args.sight.now.front.now.h) c.loop-k.invariant.most in
    let before = c.loop-k.invariant.cost in
    omega arith
