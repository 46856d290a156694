use Rattle.std.proofs.Common.{◌≡◌, ◌<◌, ◌-◌, arith}
use Rattle.pm_pack.proofs.RingLaws.{ring-more, ring-ends, ring-full}
use Rattle.pm_pack.proofs.ring.Faces.ring.Goals as goal

pub returns-then-side-eq0 : goal.returns-then-side-eq0
returns-then-side-eq0 c =
    ring-ends c.loop-turn.ring.items _ (12 - c.loop-turn._turn) c.args.start c.loop-turn.side
    c.args.self.now c.if-side-eq0.true c.loop-turn.invariant.rest

pub loop-turn-preserved : goal.loop-turn-preserved
loop-turn-preserved c =
    let some : 0 < c.loop-turn.side = omega arith in
    let few : c.loop-turn._turn < 12 = omega arith in
    let more = ring-more c.loop-turn.ring.items _ c.loop-turn._turn 12 c.args.start
    c.loop-turn.side c.args.self.now few some c.loop-turn.invariant.rest in
    record {
      len = omega (arith, c.push.ensures.len, c.loop-turn.invariant.len);
      rest = rw (c.push.ensures.items, c.spoke.ensures, c.turned-side.ensures) more;
    }

pub returns : goal.returns
returns c =
    let none : 12 - c.loop-turn._turn ≡ 0 = omega arith in
    ring-full c.loop-turn.ring.items _ (12 - c.loop-turn._turn) c.args.start c.loop-turn.side
    c.args.self.now none c.loop-turn.invariant.rest
