use Rattle.std.proofs.Common.{◌≡◌, length, refl, ap, ◌∙◌, arith}
use Rattle.pm_base.specs.Counts.{count}
use Rattle.pm_turn.specs.Turning.{flag_of}
use Rattle.pm_turn.proofs.Summing.{counted_more, counted_low}
use Rattle.pm_turn.proofs.counts.count_set.Goals as goal

pub plus-set-requires : goal.plus-set-requires
plus-set-requires c =
    let low = counted_low (flag_of c.args.flags.now) c.loop-at.at c.loop-at.set
    c.loop-at.invariant in
    omega (arith, low, c.loop-at-test.true, c.loop-at.auto.at-end, c.requires)

pub loop-at-preserved : goal.loop-at-preserved
loop-at-preserved c =
    counted_more (flag_of c.args.flags.now) c.loop-at.at c.loop-at.set c.plus-set.result
    (flag_of c.args.flags.now c.loop-at.at) c.loop-at.invariant refl c.plus-set.ensures

pub returns : goal.returns
returns c =
    let end : c.loop-at.at ≡ length c.args.flags.now =
    omega (arith, c.loop-at-test.false, c.loop-at.auto.at-end) in
    c.loop-at.invariant ∙ ap (count (flag_of c.args.flags.now)) end
