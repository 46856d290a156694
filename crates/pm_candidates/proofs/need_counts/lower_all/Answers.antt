use Rattle.std.proofs.Common.{◌<◌, length, arith}
use Rattle.pm_candidates.proofs.RaisedLaws.{counted_once, lowered_more}
use Rattle.pm_candidates.proofs.need_counts.lower_all.Goals as goal

pub lower-requires-clause-counted : goal.lower-requires-clause-counted
lower-requires-clause-counted c =
    let at : c.loop-need.need-index < length c.args.needed.now =
    omega (arith, c.loop-need-test.true) in
    counted_once c.args.needs.now c.loop-need.needs c.args.needed.now c.loop-need.need-index at
    c.loop-need.invariant c.requires.there c.requires.counted

pub loop-need-preserved : goal.loop-need-preserved
loop-need-preserved c =
    let at : c.loop-need.need-index < length c.args.needed.now =
    omega (arith, c.loop-need-test.true) in
    lowered_more c.args.needed.now c.loop-need.need-index at _ _ _ c.loop-need.invariant
    c.lower.ensures
