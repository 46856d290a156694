use Rattle.std.proofs.Common.{◌≡◌, ◌+◌, suc, Bool, List, sym, ap, subst, ◌∙◌, arith}
use Rattle.std.proofs.lemmas.Bool.{and_from, and_left, and_right}
use Rattle.pm_base.specs.Counts.{count, set_of}
use Rattle.pm_base.proofs.Counts.{count-true}
use Rattle.pm_forest.specs.Forest.{record_count, s_of}
use Rattle.pm_forest.specs.Moves.{may_try}
use Rattle.pm_refine.specs.Aims.{aim_of}
use Rattle.pm_refine.specs.Holding.{HoldsBelow}
use Rattle.pm_refine.specs.Finding.{is_due_now}
use Rattle.pm_refine.proofs.CountLaws.{count_up}
use Rattle.pm_sets.proofs.FlagLaws.{in_below}
use Rattle.pm_refine.proofs.SetLaws.{holds_up, holds_next, holds_past, next_there, none_skipped}
use Rattle.pm_refine.proofs.FindingLaws.{records_few}
use Rattle.pm_refine.proofs.finding.see_waiting.Goals as goal
use Rattle.pm_refine.proofs.finding.see_waiting.Goals.{then-wants, else-wants}

pub overflow_add-from : goal.overflow_add-from
overflow_add-from g c =
    let few = records_few c.args.sight.now.front.now.h c.invariant.ensures.valid.shape in
    let low = in_below c.waiting.result.now c.in-Some.k c.in-Some.ensures.some.there in
    let len = c.waiting.ensures.len in
    omega arith

pub loop-k-preserved : goal.loop-k-preserved
loop-k-preserved g c =
    let aim = aim_of c.args.sight.now in
    let n = record_count aim.h in
    let k = c.in-Some.k in
    let flags = c.loop-k.splits in
    let test = may_try aim.h aim.split in
    let found = is_due_now aim in
    let first = c.in-Some.ensures.some in
    let next = next_there n test c.waiting.result.now c.waiting.ensures.len c.waiting.ensures.each
    c.loop-k.from k first in
    let none = none_skipped n test c.waiting.result.now c.waiting.ensures.len c.waiting.ensures.each
    c.loop-k.from k first in
    let up = holds_up n found c.loop-k.from k flags first.from c.loop-k.invariant.seen
    (λ j low high. and_left (test j) (aim.wanted (s_of aim.h j)) (none j low high)) in
    let answer : c.wants.result ≡ aim.wanted (s_of aim.h k) = c.wants.ensures.value in
    let ahead = first.from in
    let low = next.0 in
    let more = count_up test c.loop-k.from k ahead in
    let one = count-true test k next.1 in
    let after : k + 1 ≡ suc k = omega arith in
    let at = ap (count test) after in
    let cost = c.wants.ensures.cost in
    let before = c.loop-k.invariant.cost in
    record {
      most = omega arith;
      seen = elim c.if-wants.branch [
        | then-wants w ↦
            subst (λ (m : List Bool). HoldsBelow n found (k + 1) m)
            (sym (w.splits-is ∙ w.insert.ensures))
            (holds_next n found k flags low up
            (and_from (test k) (aim.wanted (s_of aim.h k)) next.1 (sym answer
            ∙ w.if-wants.true)))
        | else-wants w ↦
            subst (λ (m : List Bool). HoldsBelow n found (k + 1) m) (sym w.splits-is)
            (holds_past n found k flags up
            (and_right (test k) (aim.wanted (s_of aim.h k)) (sym answer ∙ w.if-wants.false)))
      ];
      cost = omega arith;
    }

pub returns-clause-cost : goal.returns-clause-cost
returns-clause-cost g c =
    let up = count_up
    (may_try c.args.sight.now.front.now.h (set_of c.args.sight.now.front.now.flags))
    c.loop-k.from (record_count c.args.sight.now.front.now.h) c.loop-k.invariant.most in
    let before = c.loop-k.invariant.cost in
    omega arith
