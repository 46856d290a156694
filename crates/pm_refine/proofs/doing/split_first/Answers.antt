use Rattle.std.proofs.Common.{◌≡◌, ◌-◌, ◌<◌, false, Bool, List, length, length-set, set, take, inr}
use Rattle.std.proofs.Common.{sym, ap, subst, ◌∙◌, arith}
use Rattle.pm_forest.specs.Forest.{Hierarchy}
use Rattle.pm_base.specs.Counts.{set_of}
use Rattle.pm_beyond.specs.Moves.{MaySplit}
use Rattle.pm_beyond.specs.Plans.{Split, moved_by}
use Rattle.pm_front.specs.Corners.{split_lists, corner_lists_after}
use Rattle.pm_refine.specs.Doing.{splits_of, AreToDo}
use Rattle.pm_refine.proofs.DoingLaws.{splits_first, splits_none, may_make, one_made, none_taken}
use Rattle.pm_refine.proofs.DoingLaws.{all_made}
use Rattle.pm_refine.proofs.doing.split_first.Goals as goal

pub returns-in_default-clause-left : goal.returns-in_default-clause-left
returns-in_default-clause-left c =
    let none = ap length (splits_none c.loop-left.splits c.in_default.ensures.none) in
    let kept = c.loop-left.invariant.left in
    omega arith

pub returns-in_default-clause-moved : goal.returns-in_default-clause-moved
returns-in_default-clause-moved c =
    let left = c.loop-left.left in
    let moves = splits_of c.loop-left.splits in
    (all_made c.args.front.now.h (set_of c.loop-left.front.flags) _ c.loop-left.front.corners _
    (take left moves)
    (none_taken left moves (inr (splits_none c.loop-left.splits c.in_default.ensures.none)))
    c.loop-left.invariant.to_do).0

pub returns-in_default-clause-corners : goal.returns-in_default-clause-corners
returns-in_default-clause-corners c =
    let left = c.loop-left.left in
    let moves = splits_of c.loop-left.splits in
    (all_made c.args.front.now.h (set_of c.loop-left.front.flags) _ c.loop-left.front.corners _
    (take left moves)
    (none_taken left moves (inr (splits_none c.loop-left.splits c.in_default.ensures.none)))
    c.loop-left.invariant.to_do).1

pub split_legal-requires-clause-legal : goal.split_legal-requires-clause-legal
split_legal-requires-clause-legal c =
    let T = set_of c.loop-left.front.flags in
    let k = c.in-Some.k in
    let splits = c.loop-left.splits in
    let some : 0 < c.loop-left.left = c.loop-left-test.true in
    subst (λ (x : Hierarchy). MaySplit x T k) (sym c.loop-left.invariant.hierarchy)
    (may_make c.args.front.now.h T _ c.loop-left.front.corners _ (splits_of splits) c.loop-left.left
    (Split k) (splits_of (set splits k false)) some (splits_first splits k c.in-Some.ensures.some)
    c.loop-left.invariant.to_do).1

pub loop-left-preserved : goal.loop-left-preserved
loop-left-preserved c =
    let h = c.args.front.now.h in
    let S = set_of c.args.front.now.flags in
    let all = take c.args.budget (splits_of c.args.splits.now) in
    let T = set_of c.loop-left.front.flags in
    let k = c.in-Some.k in
    let splits = c.loop-left.splits in
    let before = c.loop-left.front.corners in
    let after = corner_lists_after h S all c.args.front.now.corners in
    let now = c.split_legal.new.self.corners in
    let some : 0 < c.loop-left.left = c.loop-left-test.true in
    let first = splits_first splits k c.in-Some.ensures.some in
    let taken : c.take_first.new.self ≡ set splits k false = c.in-Some.ensures.taken in
    let fewer = ap length first in
    let same = ap (λ (m : List Bool). length (splits_of m)) taken in
    let kept = c.loop-left.invariant.left in
    let lists : now ≡ split_lists h T k before =
    subst (λ (x : Hierarchy). now ≡ split_lists x T k before) c.loop-left.invariant.hierarchy
    c.split_legal.ensures.corners in
    record {
      hierarchy = c.split_legal.ensures.hierarchy ∙ c.loop-left.invariant.hierarchy;
      len = ap (λ (m : List Bool). length m) taken ∙ length-set {A = Bool} splits k false
          ∙ c.loop-left.invariant.len;
      left = omega arith;
      to_do = subst
          (λ (m : List Bool). AreToDo h (set_of c.split_legal.new.self.flags) (moved_by S all) now
          after (take (c.loop-left.left - 1) (splits_of m))) (sym taken)
          (one_made h T (moved_by S all) before after (splits_of splits) c.loop-left.left (Split k)
          (splits_of (set splits k false)) (set_of c.split_legal.new.self.flags) now some first
          c.split_legal.ensures.done lists c.loop-left.invariant.to_do);
    }
