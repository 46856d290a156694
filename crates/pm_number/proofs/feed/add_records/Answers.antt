use Rattle.std.proofs.Common.{◌≡◌, length, arith}
use Rattle.pm_number.specs.Tables.{run_by}
use Rattle.pm_number.proofs.FeedLaws.{expects_head, head_passes, head_taken, left_among}
use Rattle.pm_number.proofs.FeedLaws.{right_among, left_due, right_due, record_taken}
use Rattle.pm_number.proofs.feed.add_records.Goals as goal

pub add_head-requires : goal.add_head-requires
add_head-requires c =
    expects_head (run_by c.args.numbers.now) c.requires.numbers.run c.loop-k.k c.loop-k-test.true
    c.loop-k.invariant

pub unreachable-requires : goal.unreachable-requires
unreachable-requires c =
    head_passes (run_by c.args.numbers.now) c.requires.numbers.run c.loop-k.k c.loop-k-test.true
    c.loop-k.invariant c.head.ensures.value c.head.ensures.first c.head.ensures.second
    c.in_default.ensures.fault

pub add_gone-requires-clause-inside : goal.add_gone-requires-clause-inside
add_gone-requires-clause-inside c =
    rw c.step-collapse.ensures.value
    (left_among (run_by c.args.numbers.now) c.requires.numbers.run c.loop-k.k c.loop-k-test.true)

pub add_gone-requires-clause-due : goal.add_gone-requires-clause-due
add_gone-requires-clause-due c =
    rw (
      c.step-collapse.ensures.value,
      c.in-Ok.ensures.taken,
      head_taken (run_by c.args.numbers.now) c.requires.numbers.run c.loop-k.k c.loop-k-test.true
          c.loop-k.invariant c.head.ensures.value,
    )
    (left_due (run_by c.args.numbers.now) c.requires.numbers.run c.loop-k.k c.loop-k-test.true)

pub add_gone-requires-in-loop-k-clause-inside : goal.add_gone-requires-in-loop-k-clause-inside
add_gone-requires-in-loop-k-clause-inside c =
    rw c.step-collapse.ensures.value
    (right_among (run_by c.args.numbers.now) c.requires.numbers.run c.loop-k.k c.loop-k-test.true)

pub add_gone-requires-in-loop-k-clause-due : goal.add_gone-requires-in-loop-k-clause-due
add_gone-requires-in-loop-k-clause-due c =
    rw (
      c.add_gone.ensures,
      c.step-collapse.ensures.value,
      c.in-Ok.ensures.taken,
      head_taken (run_by c.args.numbers.now) c.requires.numbers.run c.loop-k.k c.loop-k-test.true
          c.loop-k.invariant c.head.ensures.value,
    )
    (right_due (run_by c.args.numbers.now) c.requires.numbers.run c.loop-k.k c.loop-k-test.true)

pub loop-k-preserved : goal.loop-k-preserved
loop-k-preserved c =
    rw (
      c.add_gone-in-loop-k.ensures,
      c.add_gone.ensures,
      c.step-collapse.ensures.value,
      c.in-Ok.ensures.taken,
      head_taken (run_by c.args.numbers.now) c.requires.numbers.run c.loop-k.k c.loop-k-test.true
          c.loop-k.invariant c.head.ensures.value,
    )
    (record_taken (run_by c.args.numbers.now) c.requires.numbers.run c.loop-k.k
    c.loop-k-test.true)

pub returns : goal.returns
returns c =
    let end : c.loop-k.k ≡ length c.args.numbers.now.run.log.now = omega arith in
    rw end at c.loop-k.invariant
