use Rattle.std.proofs.Common.{◌<◌, length, arith}
use Rattle.pm_candidates.proofs.RaisedLaws.{room_for, raised_more, cleared_more}
use Rattle.pm_candidates.proofs.candidates.need_all.Goals as goal

pub need_one-requires-clause-room : goal.need_one-requires-clause-room
need_one-requires-clause-room c =
    let at : c.loop-need.need-index < length c.args.needed.now =
    omega (arith, c.loop-need-test.true) in
    room_for c.args.needs.now c.loop-need.needs c.args.needed.now c.loop-need.need-index at
    c.loop-need.invariant.counts c.requires.there c.requires.room

pub loop-need-preserved : goal.loop-need-preserved
loop-need-preserved c =
    let at : c.loop-need.need-index < length c.args.needed.now =
    omega (arith, c.loop-need-test.true) in
    record {
      counts = raised_more c.args.needed.now c.loop-need.need-index at _ _ _
          c.loop-need.invariant.counts c.need_one.ensures.counts;
      unneeded = cleared_more c.args.needed.now c.loop-need.need-index at _ _ _
          c.loop-need.invariant.unneeded c.need_one.ensures.unneeded;
    }
