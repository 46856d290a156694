use Rattle.std.proofs.Common.{◌≡◌, length, take, sym, ap, subst, ◌∙◌, arith}
use Rattle.pm_forest.specs.Forest.{record_count}
use Rattle.pm_base.specs.Counts.{set_of}
use Rattle.pm_beyond.proofs.PlanLists.{length-plan}
use Rattle.pm_beyond.proofs.Standing.{closed-front}
use Rattle.pm_beyond.proofs.TargetLaws.{target-least}
use Rattle.pm_view.specs.Wanted.{is_wanted}
use Rattle.pm_refine.specs.declared.refiner.Adapted.TheVariants as answers
use Rattle.pm_refine.specs.Adapting.{view_target, adapted_of}
use Rattle.pm_beyond.specs.Plans.{moved_by}
use Rattle.pm_front.specs.Corners.{corner_lists_after}
use Rattle.pm_refine.proofs.AnswerLaws.{settled_there}
use Rattle.pm_refine.proofs.CountLaws.{active_many, waiting_few}
use Rattle.pm_refine.proofs.DoingLaws.{plan_is, plan_legal}
use Rattle.pm_refine.proofs.CollapseLaws.{counts_start, counts_end}
use Rattle.pm_refine.proofs.DecisionCounts.{due_few, unneeded_and_others}
use Rattle.pm_refine.proofs.refiner.Refiner.adapt.Goals as goal

pub decide_all-moves-requires-clause-counts : goal.decide_all-moves-requires-clause-counts
decide_all-moves-requires-clause-counts g c =
    let idle = c.self.invariant in
    counts_start c.args.front.now.h c.self.inside.plan.collapses.needs
    c.self.inside.plan.collapses.records
    idle.no_collapses (idle.count_len ∙ c.self.view_is ∙ c.requires.records) idle.no_counts

pub advance-requires-clause-legal : goal.advance-requires-clause-legal
advance-requires-clause-legal g c =
    let h = c.args.front.now.h in
    let S = set_of c.args.front.now.flags in
    let plan = c.decide_all-moves.new.self in
    plan_legal h S (view_target h c.args.view.now) plan.splits plan.collapses.records
    c.decide_all-moves.ensures.moves c.invariant.ensures.valid c.invariant.ensures.closed
    (target-least h c.invariant.ensures.valid.shape (is_wanted h c.args.view.now)).closed

pub invariant_of-self : goal.invariant_of-self
invariant_of-self g c =
    let decided = c.decide_all-moves.ensures in
    let done = c.advance.ensures in
    let all : record_count c.args.front.now.h ≡ length c.decide_all-moves.new.self.marks.items =
    sym (decided.len ∙ c.self.view_is ∙ c.requires.records) in
    record {
      work_len = decided.work_len ∙ c.find.ensures.start.work_len ∙ all;
      splits_len = done.splits_len ∙ decided.moves.up.len ∙ all;
      collapses_len = done.collapses_len ∙ decided.moves.down.len ∙ all;
      count_len = done.counts.len ∙ all;
      clear = decided.clear;
      no_work = decided.empty;
      no_splits = done.no_splits;
      no_collapses = done.no_collapses;
      no_counts = counts_end c.args.front.now.h c.advance.new.collapses.needs
          c.advance.new.collapses.records done.no_collapses done.counts;
    }

pub returns-clause-moved : goal.returns-clause-moved
returns-clause-moved g c =
    let h = c.args.front.now.h in
    let S = set_of c.args.front.now.flags in
    let plan = c.decide_all-moves.new.self in
    c.advance.ensures.moved
    ∙ sym (ap (λ ms. moved_by S (take c.args.budget ms))
    (plan_is h S (view_target h c.args.view.now) plan.splits plan.collapses.records
    c.decide_all-moves.ensures.moves))

pub returns-clause-corners : goal.returns-clause-corners
returns-clause-corners g c =
    let h = c.args.front.now.h in
    let S = set_of c.args.front.now.flags in
    let plan = c.decide_all-moves.new.self in
    c.advance.ensures.corners
    ∙ sym (ap (λ ms. corner_lists_after h S (take c.args.budget ms) c.args.front.now.corners)
    (plan_is h S (view_target h c.args.view.now) plan.splits plan.collapses.records
    c.decide_all-moves.ensures.moves))

pub returns-clause-answer : goal.returns-clause-answer
returns-clause-answer g c =
    let h = c.args.front.now.h in
    let S = set_of c.args.front.now.flags in
    c.adapted.ensures
    ∙ ap (adapted_of c.args.budget) (c.decide_all-moves.ensures.answer
    ∙ sym (length-plan h S (view_target h c.args.view.now)))

pub returns-clause-settled : goal.returns-clause-settled
returns-clause-settled g c moves settled =
    let h = c.args.front.now.h in
    let S = set_of c.args.front.now.flags in
    let view = c.args.view.now in
    let answer =
    c.adapted.ensures
    ∙ ap (adapted_of c.args.budget) (c.decide_all-moves.ensures.answer
    ∙ sym (length-plan h S (view_target h view))) in
    let plan = c.decide_all-moves.new.self in
    let moved = c.advance.ensures.moved
    ∙ sym (ap (λ ms. moved_by S (take c.args.budget ms))
    (plan_is h S (view_target h view) plan.splits plan.collapses.records
    c.decide_all-moves.ensures.moves)) in
    settled_there h view S c.advance.new.front.flags c.args.budget moves
    (c.invariant-2.ensures.flags ∙ ap record_count c.advance.ensures.hierarchy) moved
    (subst (λ a. a ≡ answers.Settled moves) answer settled)

pub returns-clause-cost : goal.returns-clause-cost
returns-clause-cost g c =
    let h = c.args.front.now.h in
    let S = set_of c.args.front.now.flags in
    let few = waiting_few h c.invariant.ensures.valid.shape S in
    let many = active_many h S (closed-front h S c.invariant.ensures.closed) in
    let due = due_few c.invariant.ensures in
    let plan = length-plan h S (view_target h c.args.view.now) in
    let down = c.find.ensures.cost in
    let up = c.decide_all-moves.ensures.cost in
    let apart = unneeded_and_others c.invariant.ensures in
    omega arith
