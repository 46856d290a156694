use Rattle.std.proofs.Common.{◌+◌, ◌-◌, ◌*◌, length, arith}
use Rattle.pm_sets.proofs.BitLaws.{length_seen}
use Rattle.pm_sets.proofs.OrderLaws.{gap_join, last_before, no_member}
use Rattle.pm_sets.proofs.bits.Bits.last.Goals as goal

pub loop-words-init : goal.loop-words-init
loop-words-init c =
    let long = length_seen c.self.inside.words.items c.self.inside.bound c.args.self.now
    c.self.invariant c.self.view_is in
    record {
      most = omega (arith, long);
      gap = λ j low high. absurd (omega (arith, long, low, high));
    }

pub returns-in-Some-clause-some : goal.returns-in-Some-clause-some
returns-in-Some-clause-some c =
    last_before c.args.self.now (64 * (c.loop-words.words - 1) + 64) c.in-Some.number
    c.in-Some.ensures.some
    (λ j low high. c.loop-words.invariant.gap j (omega (arith, low)) high)

pub loop-words-preserved : goal.loop-words-preserved
loop-words-preserved c = record {
  most = omega (arith, c.loop-words.invariant.most);
  gap = gap_join c.args.self.now (64 * (c.loop-words.words - 1))
      (64 * (c.loop-words.words - 1) + 64) (length c.args.self.now) c.in_default.ensures.none
      (λ j low high. c.loop-words.invariant.gap j (omega (arith, low)) high);
}

pub returns-clause-none : goal.returns-clause-none
returns-clause-none c =
    no_member c.args.self.now
    (λ j low high. c.loop-words.invariant.gap j (omega (arith, c.loop-words-test.false)) high)
