use Rattle.std.proofs.Common.{◌≡◌, ◌∙◌, sym, arith}
use Rattle.std.proofs.lemmas.Bool.{false≢true}
use Rattle.std.proofs.lemmas.List.Elements.{All-tail}
use Rattle.pm_base.specs.Sides.{Stands}
use Rattle.pm_shrink.specs.Shrinking.{net_at}
use Rattle.pm_shrink.proofs.FanLaws.{walk_on, walk_ended, seen_face}
use Rattle.pm_shrink.proofs.shrink.Shrink.face_with.Goals as goal

pub returns-then-has_others : goal.returns-then-has_others
returns-then-has_others c =
    let steps = (c.in-Some.ensures {u = tt}).steps in (
      (rw steps at c.loop-number.invariant.stand) 0 0 (omega arith),
      (rw steps at c.loop-number.invariant.start) 0 0 (omega arith),
      sym c.has_others.ensures ∙ c.if-has_others.true,
    )

pub loop-number-preserved : goal.loop-number-preserved
loop-number-preserved c =
    let was = rw (c.in-Some.ensures {u = tt}).steps at c.loop-number.invariant in
    record {
      left = walk_on c.loop-number.invariant.left (c.in-Some.ensures {u = tt}).steps
          (sym c.has_others.ensures ∙ c.if-has_others.false);
      stand = All-tail (Stands (net_at c.args.self.now)) _ _ was.stand;
      start = All-tail (λ g. (net_at c.args.self.now).from g ≡ c.args.a) _ _ was.start;
    }

pub returns : goal.returns
returns c = λ k. false≢true
    (sym (walk_ended c.loop-number.invariant.left (c.in-None.ensures {u = tt}).steps.0)
    ∙ (seen_face c.corners_at-number-items.ensures.each c.args.b c.args.c).1 k)
