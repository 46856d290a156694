use Rattle.std.proofs.Common.{◌∙◌, true, sym}
use Rattle.std.proofs.lemmas.Bool.{false≢true}
use Rattle.std.proofs.lemmas.List.Elements.{All-tail}
use Rattle.pm_base.specs.Sides.{Stands}
use Rattle.pm_shrink.specs.Shrinking.{net_at}
use Rattle.pm_shrink.proofs.FanLaws.{walk_on, walk_found, walk_ended, seen_border}
use Rattle.pm_shrink.proofs.shrink.Shrink.is_on_border.Goals as goal

pub returns-then-is_border_corner : goal.returns-then-is_border_corner
returns-then-is_border_corner c = (
  λ t. (seen_border c.corners_at-number-items.ensures.each).0
      (walk_found c.loop-number.invariant.left (c.in-Some.ensures {u = tt}).steps
      (sym c.is_border_corner.ensures ∙ c.if-is_border_corner.true)),
  λ k. λ i. true,
)

pub loop-number-preserved : goal.loop-number-preserved
loop-number-preserved c =
    let steps = (c.in-Some.ensures {u = tt}).steps in
    record {
      left = walk_on c.loop-number.invariant.left steps
          (sym c.is_border_corner.ensures ∙ c.if-is_border_corner.false);
      stand = All-tail (Stands (net_at c.args.self.now)) _ _
          (rw steps at c.loop-number.invariant.stand);
    }

pub returns : goal.returns
returns c = (
  λ t. absurd (false≢true t),
  λ k. sym (walk_ended c.loop-number.invariant.left (c.in-None.ensures {u = tt}).steps.0)
      ∙ (seen_border c.corners_at-number-items.ensures.each).1 k,
)
