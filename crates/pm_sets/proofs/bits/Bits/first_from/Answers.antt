use Rattle.std.proofs.Common.{◌+◌, ◌*◌, ◌/◌, arith}
use Rattle.pm_sets.proofs.BitLaws.{length_seen}
use Rattle.pm_sets.proofs.OrderLaws.{gap_join, first_after}
use Rattle.pm_sets.proofs.bits.Bits.first_from.Goals as goal

pub first_in_word-requires : goal.first_in_word-requires
first_in_word-requires c =
    let long = length_seen c.self.inside.words.items c.self.inside.bound c.args.self.now
    c.self.invariant c.self.view_is in
    omega (arith, long, c.loop-from-test.true)

pub returns-in-Some-clause-some : goal.returns-in-Some-clause-some
returns-in-Some-clause-some c =
    first_after c.args.self.now c.args.at c.loop-from.from c.in-Some.number
    c.loop-from.invariant.after c.loop-from.invariant.gap c.in-Some.ensures.some

pub loop-from-preserved : goal.loop-from-preserved
loop-from-preserved c = record {
  after = omega (arith, c.loop-from.invariant.after);
  gap = gap_join c.args.self.now c.args.at c.loop-from.from (64 * (c.loop-from.from / 64) + 64)
      c.loop-from.invariant.gap c.in_default.ensures.none;
}

pub returns-clause-none : goal.returns-clause-none
returns-clause-none c =
    let long = length_seen c.self.inside.words.items c.self.inside.bound c.args.self.now
    c.self.invariant c.self.view_is in
    λ j low high. c.loop-from.invariant.gap j low
    (omega (arith, long, high, c.loop-from-test.false))
