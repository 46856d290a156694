use Rattle.std.proofs.Common.{◌≡◌, length, arith}
use Rattle.pm_number.specs.Tables.{run_in}
use Rattle.pm_number.proofs.NumberLaws.{widths_start, widths_more, widths_small}
use Rattle.pm_number.proofs.run.Run.widths.Goals as goal

pub loop-i-init : goal.loop-i-init
loop-i-init c =
    let table = c.in_ok-widths.widths.items in
    widths_start (run_in c.args.self.now) table _ (omega (arith, c.in_ok-widths.ensures.len))
    (λ k l. c.in_ok-widths.ensures.each k (omega arith))

pub loop-i-preserved : goal.loop-i-preserved
loop-i-preserved c =
    widths_more c.requires.merging c.entry-collapse.ensures.value c.loop-i-test.true
    c.loop-i.invariant c.index.ensures c.index-in-loop-i.ensures

pub overflow_add-index : goal.overflow_add-index
overflow_add-index c =
    omega (
      arith,
      widths_small c.requires c.entry-collapse.ensures.value c.loop-i-test.true
          c.loop-i.invariant c.index.ensures c.index-in-loop-i.ensures,
    )

pub returns : goal.returns
returns c =
    let end : c.loop-i.i ≡ length c.args.self.now.log.now = omega arith in
    rw end at c.loop-i.invariant
