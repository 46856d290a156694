use Rattle.std.proofs.Common.{◌<◌, length, arith}
use Rattle.pm_candidates.proofs.RaisedLaws.{room_for, raised_more}
use Rattle.pm_candidates.proofs.need_counts.raise_all.Goals as goal

pub raise-requires-clause-room : goal.raise-requires-clause-room
raise-requires-clause-room c =
    let at : c.loop-need.need-index < length c.args.needed.now =
    omega (arith, c.loop-need-test.true) in
    room_for c.args.needs.now c.loop-need.needs c.args.needed.now c.loop-need.need-index at
    c.loop-need.invariant c.requires.there c.requires.room

pub loop-need-preserved : goal.loop-need-preserved
loop-need-preserved c =
    let at : c.loop-need.need-index < length c.args.needed.now =
    omega (arith, c.loop-need-test.true) in
    raised_more c.args.needed.now c.loop-need.need-index at _ _ _ c.loop-need.invariant
    c.raise.ensures
