use Rattle.std.proofs.Common.{◌∙◌, true, sym}
use Rattle.std.proofs.lemmas.Bool.{false≢true}
use Rattle.std.proofs.lemmas.List.Elements.{All-tail}
use Rattle.pm_base.specs.Sides.{Stands}
use Rattle.pm_shrink.specs.Shrinking.{net_at}
use Rattle.pm_shrink.proofs.FanLaws.{walk_on, walk_found, walk_ended, seen_joined}
use Rattle.pm_shrink.proofs.shrink.Shrink.is_joined_at.Goals as goal

pub returns-then-has_other : goal.returns-then-has_other
returns-then-has_other c = (
  λ t. (seen_joined c.corners_at-number-items.ensures.each c.args.w).0
      (walk_found c.loop-number.invariant.left (c.in-Some.ensures {u = tt}).steps
      (sym c.has_other.ensures ∙ c.if-has_other.true)),
  λ k. λ i. true,
)

pub loop-number-preserved : goal.loop-number-preserved
loop-number-preserved c =
    let steps = (c.in-Some.ensures {u = tt}).steps in
    record {
      left = walk_on c.loop-number.invariant.left steps
          (sym c.has_other.ensures ∙ c.if-has_other.false);
      stand = All-tail (Stands (net_at c.args.self.now)) _ _
          (rw steps at c.loop-number.invariant.stand);
    }

pub returns : goal.returns
returns c = (
  λ t. absurd (false≢true t),
  λ k. sym (walk_ended c.loop-number.invariant.left (c.in-None.ensures {u = tt}).steps.0)
      ∙ (seen_joined c.corners_at-number-items.ensures.each c.args.w).1 k,
)
