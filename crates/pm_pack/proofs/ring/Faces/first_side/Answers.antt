use Rattle.std.proofs.Common.{◌≡◌, ◌<◌, ◌-◌, arith}
use Rattle.pm_pack.proofs.RingLaws.{back-more, back-ends, back-full}
use Rattle.pm_pack.proofs.ring.Faces.first_side.Goals as goal

pub returns-then-before-eq0 : goal.returns-then-before-eq0
returns-then-before-eq0 c =
    back-ends _ (12 - c.loop-turn._turn) c.args.start c.loop-turn.side _ c.args.self.now
    c.side_before-before.ensures c.then-before-eq0.either c.loop-turn.invariant

pub loop-turn-preserved : goal.loop-turn-preserved
loop-turn-preserved c =
    let few : c.loop-turn._turn < 12 = omega arith in
    back-more _ c.loop-turn._turn 12 c.args.start c.loop-turn.side _ c.args.self.now few
    c.side_before-before.ensures c.if-before-eq0.false c.if-before-start.false
    c.loop-turn.invariant

pub returns : goal.returns
returns c =
    let none : 12 - c.loop-turn._turn ≡ 0 = omega arith in
    back-full _ (12 - c.loop-turn._turn) c.args.start c.loop-turn.side c.args.self.now none
    c.loop-turn.invariant
