use Rattle.std.proofs.Common.{◌-◌, ℕ, Bool, length, take, sym, ap, subst, ◌∙◌}
use Rattle.pm_forest.specs.Forest.{Hierarchy}
use Rattle.pm_base.specs.Counts.{set_of}
use Rattle.pm_beyond.specs.Plans.{moved_by, AreLegal}
use Rattle.pm_beyond.proofs.PlanLists.{moved_by-append}
use Rattle.pm_front.specs.Corners.{corner_lists_after}
use Rattle.pm_refine.specs.Doing.{splits_of, collapses_of}
use Rattle.pm_refine.proofs.DoingLaws.{may_start, moves_start, lists-append}
use Rattle.pm_refine.proofs.doing.advance.Goals as goal

pub split_first-left-requires-clause-legal : goal.split_first-left-requires-clause-legal
split_first-left-requires-clause-legal c =
    let h = c.args.front.now.h in
    (may_start c.args.splits.now c.args.collapses.now.records c.args.budget h
    (set_of c.args.front.now.flags) c.requires.legal).0

pub collapse_last-requires-clause-legal : goal.collapse_last-requires-clause-legal
collapse_last-requires-clause-legal c =
    let h = c.args.front.now.h in
    let S = set_of c.args.front.now.flags in
    let down = collapses_of c.args.collapses.now.records in
    let done = c.split_first-left.ensures in
    let left = c.split_first-left.result in
    let first = moved_by S (take c.args.budget (splits_of c.args.splits.now)) in
    subst (λ (x : Hierarchy). AreLegal x (set_of c.split_first-left.new.front.flags)
    (take left down)) (sym done.hierarchy)
    (subst (λ T. AreLegal h T (take left down)) (sym done.moved)
    (subst (λ i. AreLegal h first (take i down)) (sym done.left)
    (may_start c.args.splits.now c.args.collapses.now.records c.args.budget h S
    c.requires.legal).1))

pub returns-clause-moved : goal.returns-clause-moved
returns-clause-moved c =
    let h = c.args.front.now.h in
    let S = set_of c.args.front.now.flags in
    let up = take c.args.budget (splits_of c.args.splits.now) in
    let down = collapses_of c.args.collapses.now.records in
    let done = c.split_first-left.ensures in
    c.collapse_last.ensures.moved
    ∙ ap (λ (T : ℕ → Bool). moved_by T (take c.split_first-left.result down)) done.moved
    ∙ ap (λ i. moved_by (moved_by S up) (take i down)) done.left
    ∙ sym (moved_by-append S up (take (c.args.budget - length (splits_of c.args.splits.now)) down))
    ∙ sym (ap (moved_by S)
    (moves_start c.args.splits.now c.args.collapses.now.records c.args.budget))

pub returns-clause-corners : goal.returns-clause-corners
returns-clause-corners c =
    let h = c.args.front.now.h in
    let S = set_of c.args.front.now.flags in
    let up = take c.args.budget (splits_of c.args.splits.now) in
    let down = collapses_of c.args.collapses.now.records in
    let done = c.split_first-left.ensures in
    let front = c.split_first-left.new.front in
    let before = c.args.front.now.corners in
    let rest = take (c.args.budget - length (splits_of c.args.splits.now)) down in
    c.collapse_last.ensures.corners
    ∙ ap (λ (x : Hierarchy). corner_lists_after x (set_of front.flags)
    (take c.split_first-left.result down) front.corners) done.hierarchy
    ∙ ap (λ (T : ℕ → Bool). corner_lists_after h T (take c.split_first-left.result down)
    front.corners) done.moved
    ∙ ap (λ i. corner_lists_after h (moved_by S up) (take i down) front.corners) done.left
    ∙ ap (corner_lists_after h (moved_by S up) rest) done.corners
    ∙ sym (lists-append h S up rest before)
    ∙ sym (ap (λ ms. corner_lists_after h S ms before)
    (moves_start c.args.splits.now c.args.collapses.now.records c.args.budget))
