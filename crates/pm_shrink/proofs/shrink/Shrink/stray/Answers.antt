use Rattle.std.proofs.Common.{◌≡◌, arith}
use Rattle.std.proofs.lemmas.List.Elements.{All-tail}
use Rattle.pm_base.specs.Sides.{Stands}
use Rattle.pm_shrink.specs.Shrinking.{net_at}
use Rattle.pm_shrink.proofs.FanLaws.{so_far_more, so_far_all, no_stray}
use Rattle.pm_shrink.proofs.shrink.Shrink.stray.Goals as goal

pub stray_at-requires-clause-at : goal.stray_at-requires-clause-at
stray_at-requires-clause-at c =
    (rw (c.in-Some.ensures {u = tt}).steps at c.loop-number.invariant.start) 0 0 (omega arith)

pub loop-number-preserved : goal.loop-number-preserved
loop-number-preserved c =
    let steps = (c.in-Some.ensures {u = tt}).steps in
    record {
      passed = so_far_more c.loop-number.invariant.passed steps c.in_default.ensures;
      stand = All-tail (Stands (net_at c.args.self.now)) _ _
          (rw steps at c.loop-number.invariant.stand);
      start = All-tail (λ g. (net_at c.args.self.now).from g ≡ c.args.a) _ _
          (rw steps at c.loop-number.invariant.start);
    }

pub returns : goal.returns
returns c =
    no_stray c.args.b c.corners_at-number-items.ensures.each
    (so_far_all c.loop-number.invariant.passed (c.in-None.ensures {u = tt}).steps.0)
