use Rattle.std.proofs.Common.{◌≡◌, ◌∙◌, ◌<◌, ℕ, List, Bool, Option, Some, length, true, ap, sym}
use Rattle.std.proofs.Common.{subst, arith}
use Rattle.std.specs.Option.{IfSome}
use Rattle.pm_base.specs.declared.ids.Side.{Side}
use Rattle.pm_links.specs.Lists.{has}
use Rattle.pm_shrink.specs.Shrinking.{fan_at}
use Rattle.pm_simplify.specs.KnownBorder.{is_noted}
use Rattle.pm_simplify.specs.Walks.{still, IsWalk, IsRightBeside}
use Rattle.pm_simplify.proofs.Walking.{next_held, fan_shorter, fan_goes}
use Rattle.pm_simplify.proofs.around.pass_resting.Goals as goal

pub rests-requires-clause-start : goal.rests-requires-clause-start
rests-requires-clause-start c =
    let fan : List ℕ = fan_at c.args.shrink.now c.args.v in
    let flags : List Bool = c.args.border.now in
    let held : has fan c.in-Some.corner.0 ≡ true =
    subst (λ (o : Option Side). IfSome o (λ x. has fan x.0 ≡ true)) c.in-Some.is
    c.loop-at.invariant.held in
    let from = (((c.invariant.ensures.kept.corners c.args.v).each c.in-Some.corner.0).0 held).1 in
    ap (is_noted flags) from ∙ sym c.has.ensures ∙ c.if-not-has.false

pub loop-at-smaller : goal.loop-at-smaller
loop-at-smaller c =
    let fan : List ℕ = fan_at c.args.shrink.now c.args.v in
    let held : has fan c.in-Some.corner.0 ≡ true =
    subst (λ (o : Option Side). IfSome o (λ x. has fan x.0 ≡ true)) c.in-Some.is
    c.loop-at.invariant.held in
    subst (λ (o : Option Side). length (still c.next_corner-at.result fan) < length (still o fan))
    (sym c.in-Some.is)
    (fan_shorter c.args.shrink.now c.args.v (c.invariant.ensures.kept.corners c.args.v)
    c.in-Some.corner c.next_corner-at.result held c.next_corner-at.ensures.value)

pub loop-at-preserved : goal.loop-at-preserved
loop-at-preserved c =
    let i = c.loop-at.invariant in
    let s = c.args.shrink.now in
    let v = c.args.v in
    let fan : List ℕ = fan_at s v in
    let corner = c.in-Some.corner in
    let held : has fan corner.0 ≡ true =
    subst (λ (o : Option Side). IfSome o (λ x. has fan x.0 ≡ true)) c.in-Some.is i.held in
    let corners = c.invariant.ensures.kept.corners v in
    let value = c.next_corner-at.ensures.value in
    let less : length (still c.next_corner-at.result fan) < length (still (Some corner) fan) =
    fan_shorter s v corners corner c.next_corner-at.result held value in
    let most = i.shorter in
    let same = ap (λ (o : Option Side). length (still o fan)) c.in-Some.is in
    record {
      held = next_held s v corners corner c.next_corner-at.result held value;
      shorter = omega (arith, less, most, same);
      walk = λ p m log after walk.
          fan_goes s v corners corner c.next_corner-at.result held value
          (IsRightBeside p m log c.args.queue.now) (IsRightBeside p m log c.args.queue.now)
          (subst (IsWalk fan (IsRightBeside p m log c.args.queue.now)) c.in-Some.is
          (i.walk p m log after walk))
          (λ e done. done) (c.rests.ensures c.if-not-rests.false p m log after);
    }

pub returns-then-not-rests-clause-walk : goal.returns-then-not-rests-clause-walk
returns-then-not-rests-clause-walk c = λ p m log after walk.
    subst (IsWalk (fan_at c.args.shrink.now c.args.v) (IsRightBeside p m log c.args.queue.now))
    c.in-Some.is (c.loop-at.invariant.walk p m log after walk)

pub returns-clause-walk : goal.returns-clause-walk
returns-clause-walk c = λ p m log after walk.
    subst (IsWalk (fan_at c.args.shrink.now c.args.v) (IsRightBeside p m log c.args.queue.now))
    c.in_default.is (c.loop-at.invariant.walk p m log after walk)
