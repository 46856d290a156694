use Rattle.std.proofs.Common.{◌≡◌, ◌+◌, List, Bool, set, false, refl, sym, ap, subst, ◌∙◌, arith}
use Rattle.pm_base.specs.Counts.{one_if}
use Rattle.pm_forest.specs.Forest.{record_count}
use Rattle.pm_refine.specs.Aims.{aim_of, is_moved, sets, sets_of}
use Rattle.pm_refine.specs.Deciding.{IsNext}
use Rattle.pm_refine.proofs.SetLaws.{reach-less}
use Rattle.pm_refine.proofs.FindingLaws.{records_few}
use Rattle.pm_refine.proofs.DecidingLaws.{start, next, all_decided, none_counted, goes_on}
use Rattle.pm_refine.proofs.plan.Plan.decide_all.Goals as goal

pub loop-k-init : goal.loop-k-init
loop-k-init g c = record {
  len = refl;
  work_len = refl;
  counts = c.requires.counts;
  so_far = record {
    bound = record_count c.args.sight.now.front.now.h;
    decided = start c.invariant.ensures (sets_of c.args.self.now) c.requires.start c.requires.marks
        c.requires.clear c.requires.splits c.requires.no_splits c.requires.collapses
        c.requires.no_collapses;
    found = omega arith;
    few = omega arith;
    cost = omega arith;
  };
}

pub decide-requires-clause-next : goal.decide-requires-clause-next
decide-requires-clause-next g c =
    let k = c.in-Some.k in
    let held = sets_of c.loop-k.self in
    let taken : c.take_last.new.self ≡ set held.work k false = c.in-Some.ensures.taken in
    subst (λ (w : List Bool). IsNext (aim_of c.args.sight.now) k
    (sets held.marks w held.splits held.collapses)) (sym taken)
    (next c.invariant.ensures c.loop-k.invariant.so_far.decided
    c.in-Some.ensures.some)

pub loop-k-preserved-then-decide : goal.loop-k-preserved-then-decide
loop-k-preserved-then-decide g c =
    let one = ap one_if (sym c.decide.ensures.answer ∙ c.if-decide.true) in
    let made : c.loop-k.moves_found + 1
    ≡ c.loop-k.moves_found + one_if (is_moved (aim_of c.args.sight.now) c.in-Some.k) =
    omega arith in
    record {
      len = c.decide.ensures.decided.mark_len ∙ sym c.requires.marks;
      work_len = c.decide.ensures.decided.work_len ∙ sym c.requires.start.work_len;
      counts = c.decide.ensures.counts;
      so_far = goes_on c.invariant.ensures c.loop-k.invariant.so_far c.in-Some.ensures.some
          c.decide.ensures.decided made c.decide.ensures.cost;
    }

pub loop-k-preserved : goal.loop-k-preserved
loop-k-preserved g c =
    let none = ap one_if (sym c.decide.ensures.answer ∙ c.if-decide.false) in
    let made : c.loop-k.moves_found
    ≡ c.loop-k.moves_found + one_if (is_moved (aim_of c.args.sight.now) c.in-Some.k) =
    omega arith in
    record {
      len = c.decide.ensures.decided.mark_len ∙ sym c.requires.marks;
      work_len = c.decide.ensures.decided.work_len ∙ sym c.requires.start.work_len;
      counts = c.decide.ensures.counts;
      so_far = goes_on c.invariant.ensures c.loop-k.invariant.so_far c.in-Some.ensures.some
          c.decide.ensures.decided made c.decide.ensures.cost;
    }

pub overflow_add-moves_found : goal.overflow_add-moves_found
overflow_add-moves_found g c =
    let few = c.loop-k.invariant.so_far.few in
    let low = c.loop-k.invariant.so_far.decided.below c.in-Some.k c.in-Some.ensures.some.there in
    let all = records_few c.args.sight.now.front.now.h c.invariant.ensures.valid.shape in
    omega arith

pub loop-k-smaller-then-decide : goal.loop-k-smaller-then-decide
loop-k-smaller-then-decide g c =
    reach-less c.loop-k.self.work c.decide.new.self.work c.in-Some.k c.in-Some.ensures.some.there
    c.decide.ensures.decided.below

pub loop-k-smaller : goal.loop-k-smaller
loop-k-smaller g c =
    reach-less c.loop-k.self.work c.decide.new.self.work c.in-Some.k c.in-Some.ensures.some.there
    c.decide.ensures.decided.below

pub returns-clause-clear : goal.returns-clause-clear
returns-clause-clear g c =
    (all_decided c.invariant.ensures c.loop-k.invariant.so_far.decided
    c.in_default.ensures.none).0

pub returns-clause-moves : goal.returns-clause-moves
returns-clause-moves g c =
    (all_decided c.invariant.ensures c.loop-k.invariant.so_far.decided
    c.in_default.ensures.none).1

pub returns-clause-answer : goal.returns-clause-answer
returns-clause-answer g c =
    let none = none_counted c.invariant.ensures c.loop-k.invariant.so_far.decided
    c.in_default.ensures.none in
    let found = c.loop-k.invariant.so_far.found in
    omega arith
