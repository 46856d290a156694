use Rattle.std.proofs.Common.{◌<◌, length, arith}
use Rattle.pm_candidates.proofs.RaisedLaws.{counted_once, lowered_more, freed_more}
use Rattle.pm_candidates.proofs.candidates.free_all.Goals as goal

pub free_one-requires-clause-counted : goal.free_one-requires-clause-counted
free_one-requires-clause-counted c =
    let at : c.loop-need.need-index < length c.args.needed.now =
    omega (arith, c.loop-need-test.true) in
    counted_once c.args.needs.now c.loop-need.needs c.args.needed.now c.loop-need.need-index at
    c.loop-need.invariant.counts c.requires.there c.requires.counted

pub loop-need-preserved : goal.loop-need-preserved
loop-need-preserved c =
    let at : c.loop-need.need-index < length c.args.needed.now =
    omega (arith, c.loop-need-test.true) in
    record {
      counts = lowered_more c.args.needed.now c.loop-need.need-index at _ _ _
          c.loop-need.invariant.counts c.free_one.ensures.counts;
      unneeded = freed_more c.args.needed.now c.loop-need.need-index at _ _ _ _ _
          c.loop-need.invariant.unneeded c.free_one.ensures.unneeded c.free_one.ensures.counts
          (omega (
            arith,
            c.requires.len,
            c.loop-need.invariant.counts.len,
            c.free_one.ensures.counts.len,
          ));
    }
