use Rattle.std.proofs.Common.{◌≡◌, ◌-◌, ◌<◌, false, Bool, List, length, length-set, set, take, inr}
use Rattle.std.proofs.Common.{sym, ap, subst, ◌∙◌}
use Rattle.pm_forest.specs.Forest.{Hierarchy}
use Rattle.pm_base.specs.Counts.{set_of}
use Rattle.pm_beyond.specs.Moves.{MayCollapse}
use Rattle.pm_beyond.specs.Plans.{Collapse, moved_by}
use Rattle.pm_front.specs.Corners.{collapsed_lists, corner_lists_after}
use Rattle.pm_candidates.specs.Needed.{AreNeedCounts}
use Rattle.pm_refine.specs.Doing.{collapses_of, AreToDo}
use Rattle.pm_refine.proofs.DoingLaws.{collapses_first, collapses_none, may_make, one_made}
use Rattle.pm_refine.proofs.DoingLaws.{none_taken, all_made}
use Rattle.pm_refine.proofs.doing.collapse_last.Goals as goal

pub returns-in_default-clause-moved : goal.returns-in_default-clause-moved
returns-in_default-clause-moved c =
    let left = c.loop-left.left in
    let moves = collapses_of c.loop-left.collapses.records in
    (all_made c.args.front.now.h (set_of c.loop-left.front.flags) _ c.loop-left.front.corners _
    (take left moves)
    (none_taken left moves
    (inr (collapses_none c.loop-left.collapses.records c.in_default.ensures.none)))
    c.loop-left.invariant.to_do).0

pub returns-in_default-clause-corners : goal.returns-in_default-clause-corners
returns-in_default-clause-corners c =
    let left = c.loop-left.left in
    let moves = collapses_of c.loop-left.collapses.records in
    (all_made c.args.front.now.h (set_of c.loop-left.front.flags) _ c.loop-left.front.corners _
    (take left moves)
    (none_taken left moves
    (inr (collapses_none c.loop-left.collapses.records c.in_default.ensures.none)))
    c.loop-left.invariant.to_do).1

pub collapse_legal-requires-clause-legal : goal.collapse_legal-requires-clause-legal
collapse_legal-requires-clause-legal c =
    let T = set_of c.loop-left.front.flags in
    let k = c.in-Some.k in
    let collapses = c.loop-left.collapses.records in
    let some : 0 < c.loop-left.left = c.loop-left-test.true in
    subst (λ (x : Hierarchy). MayCollapse x T k) (sym c.loop-left.invariant.hierarchy)
    (may_make c.args.front.now.h T _ c.loop-left.front.corners _ (collapses_of collapses)
    c.loop-left.left (Collapse k) (collapses_of (set collapses k false)) some
    (collapses_first collapses k c.in-Some.ensures.some)
    c.loop-left.invariant.to_do).1

pub loop-left-preserved : goal.loop-left-preserved
loop-left-preserved c =
    let h = c.args.front.now.h in
    let S = set_of c.args.front.now.flags in
    let all = take c.args.budget (collapses_of c.args.collapses.now.records) in
    let T = set_of c.loop-left.front.flags in
    let k = c.in-Some.k in
    let collapses = c.loop-left.collapses.records in
    let before = c.loop-left.front.corners in
    let after = corner_lists_after h S all c.args.front.now.corners in
    let now = c.collapse_legal.new.self.corners in
    let some : 0 < c.loop-left.left = c.loop-left-test.true in
    let first = collapses_first collapses k c.in-Some.ensures.some in
    let taken : c.take_last.new.self.records ≡ set collapses k false = c.in-Some.ensures.taken in
    let lists : now ≡ collapsed_lists c.args.front.now.h k before =
    subst (λ (x : Hierarchy). now ≡ collapsed_lists x k before) c.loop-left.invariant.hierarchy
    c.collapse_legal.ensures.corners in
    record {
      hierarchy = c.collapse_legal.ensures.hierarchy ∙ c.loop-left.invariant.hierarchy;
      len = ap (λ (m : List Bool). length m) taken ∙ length-set {A = Bool} collapses k false
          ∙ c.loop-left.invariant.len;
      counts = subst (λ (x : Hierarchy). AreNeedCounts x (set_of c.take_last.new.self.records)
          c.take_last.new.self.needs) c.loop-left.invariant.hierarchy c.take_last.ensures.counts;
      to_do = subst
          (λ (m : List Bool). AreToDo h (set_of c.collapse_legal.new.self.flags) (moved_by S all)
          now after (take (c.loop-left.left - 1) (collapses_of m))) (sym taken)
          (one_made h T (moved_by S all) before after (collapses_of collapses) c.loop-left.left
          (Collapse k) (collapses_of (set collapses k false))
          (set_of c.collapse_legal.new.self.flags) now some first
          c.collapse_legal.ensures.done lists c.loop-left.invariant.to_do);
    }
