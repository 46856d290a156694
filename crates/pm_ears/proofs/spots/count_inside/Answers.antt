use Rattle.std.proofs.Common.{◌≡◌, slice_index_or, ap, ◌∙◌, arith}
use Rattle.pm_base.specs.Counts.{one_if}
use Rattle.pm_base.proofs.Counts.{one_if-le}
use Rattle.pm_ears.specs.Areas.{nowhere, lies_in}
use Rattle.pm_ears.proofs.Rows.{inside_next, inside_end, byte_one}
use Rattle.pm_ears.proofs.spots.count_inside.Goals as goal

pub loop-i-preserved : goal.loop-i-preserved
loop-i-preserved c =
    let next = inside_next c.args.t c.args.spots.now c.loop-i.i c.loop-i-test.true in
    let one : c.from-inside.result
    ≡ one_if (lies_in c.args.t (slice_index_or c.args.spots.now c.loop-i.i nowhere)) =
    c.from-inside.ensures ∙ byte_one c.lies_in.result ∙ ap one_if c.lies_in.ensures in
    let small = one_if-le (lies_in c.args.t (slice_index_or c.args.spots.now c.loop-i.i nowhere)) in
    let old = c.loop-i.invariant.value in
    record {
      value =
          omega (arith, next, one, old);
      few = omega (arith, one, small, c.loop-i.invariant.few);
    }

pub returns-clause-value : goal.returns-clause-value
returns-clause-value c =
    let none = inside_end c.args.t c.args.spots.now c.loop-i.i (omega
    (arith, c.loop-i-test.false, c.loop-i.auto.i-end)) in
    omega (arith, none, c.loop-i.invariant.value)
