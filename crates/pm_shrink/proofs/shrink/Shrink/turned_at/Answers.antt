use Rattle.std.proofs.Common.{◌≡◌, ◌∙◌, sym, arith}
use Rattle.std.proofs.lemmas.List.Elements.{All-tail}
use Rattle.pm_base.specs.Sides.{Stands}
use Rattle.pm_shrink.specs.Shrinking.{net_at}
use Rattle.pm_shrink.proofs.FanLaws.{so_far_more, so_far_all}
use Rattle.pm_shrink.proofs.UprightLaws.{all_upright, own_upright, same_place}
use Rattle.pm_shrink.proofs.shrink.Shrink.turned_at.Goals as goal

pub returns-then-turns_over : goal.returns-then-turns_over
returns-then-turns_over c =
    let was = rw (c.in-Some.ensures {u = tt}).steps at c.loop-number.invariant in (
      was.stand 0 0 (omega arith),
      was.start 0 0 (omega arith),
      c.turns_over.ensures.yes c.if-turns_over.true,
    )

pub loop-number-preserved : goal.loop-number-preserved
loop-number-preserved c =
    let steps = (c.in-Some.ensures {u = tt}).steps in
    record {
      passed = so_far_more c.loop-number.invariant.passed steps
          (c.turns_over.ensures.no c.if-turns_over.false);
      stand = All-tail (Stands (net_at c.args.self.now)) _ _
          (rw steps at c.loop-number.invariant.stand);
      start = All-tail (λ g. (net_at c.args.self.now).from g ≡ c.args.p) _ _
          (rw steps at c.loop-number.invariant.start);
    }

pub returns : goal.returns
returns c =
    all_upright c.args.self.now.surface c.args.q c.args.place
    c.corners_at-number-items.ensures.each
    (so_far_all c.loop-number.invariant.passed (c.in-None.ensures {u = tt}).steps.0)

pub returns-then-eq : goal.returns-then-eq
returns-then-eq c =
    own_upright c.args.self.now.surface c.args.p c.args.q c.args.place
    (same_place c.args.place c.place.result (sym c.eq.ensures ∙ c.if-eq.true) ∙ c.place.ensures)
