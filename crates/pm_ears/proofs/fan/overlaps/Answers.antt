use Rattle.std.proofs.Common.{◌<◌, ◌≤◌, ◌+◌, length, ap, sym, ◌∙◌, slice_index_or, arith}
use Rattle.std.specs.List.{list_any}
use Rattle.pm_ears.specs.Areas.{nowhere}
use Rattle.pm_ears.specs.Cutting.{is_turned_over}
use Rattle.pm_ears.proofs.Rows.{fan_begins, turned_next, fan_ends}
use Rattle.pm_ears.proofs.fan.overlaps.Goals as goal

pub loop-i-init : goal.loop-i-init
loop-i-init c = ap (list_any is_turned_over) (fan_begins c.args.spots.now)

pub returns-then-is_turned_over : goal.returns-then-is_turned_over
returns-then-is_turned_over c =
    let l : c.loop-i.i + 1 < length c.args.spots.now =
    omega (arith, c.loop-i-test.true, c.loop-i.auto.i-end, c.saturating_sub-i-end.ensures) in
    sym (turned_next c.args.spots.now c.loop-i.i _ l
    (sym c.is_turned_over.ensures ∙ c.if-is_turned_over.true)) ∙ c.loop-i.invariant

pub loop-i-preserved : goal.loop-i-preserved
loop-i-preserved c =
    let l : c.loop-i.i + 1 < length c.args.spots.now =
    omega (arith, c.loop-i-test.true, c.loop-i.auto.i-end, c.saturating_sub-i-end.ensures) in
    sym (turned_next c.args.spots.now c.loop-i.i _ l
    (sym c.is_turned_over.ensures ∙ c.if-is_turned_over.false)) ∙ c.loop-i.invariant

pub returns : goal.returns
returns c =
    let l : length c.args.spots.now ≤ c.loop-i.i + 1 =
    omega (arith, c.loop-i-test.false, c.loop-i.auto, c.saturating_sub-i-end.ensures) in
    sym (ap (list_any is_turned_over)
    (fan_ends c.args.spots.now (slice_index_or c.args.spots.now 0 nowhere) c.loop-i.i
    l)) ∙ c.loop-i.invariant
