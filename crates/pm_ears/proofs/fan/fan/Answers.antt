use Rattle.std.proofs.Common.{◌<◌, ◌≤◌, ◌+◌, ◌++◌, List, drop, length, map, ap, sym, ◌∙◌}
use Rattle.std.proofs.Common.{slice_index_or, arith}
use Rattle.std.proofs.lemmas.List.{append-nil}
use Rattle.pm_base.specs.declared.mesh.Corners.{Corners}
use Rattle.pm_ears.specs.declared.spots.Triangle.{Triangle}
use Rattle.pm_ears.specs.Areas.{nowhere}
use Rattle.pm_ears.specs.Fans.{fan_from}
use Rattle.pm_ears.specs.Cutting.{named}
use Rattle.pm_ears.proofs.Rows.{fan_begins, fan_more, fan_ends}
use Rattle.pm_ears.proofs.fan.fan.Goals as goal

pub loop-i-init : goal.loop-i-init
loop-i-init c =
    let first = slice_index_or c.args.spots.now 0 nowhere in
    ap (λ (cs : List Corners). cs ++ map named (fan_from first (drop 1 c.args.spots.now)))
    c.new-fan.ensures.items
    ∙ ap (map named) (fan_begins c.args.spots.now)

pub loop-i-preserved : goal.loop-i-preserved
loop-i-preserved c =
    let l : c.loop-i.i + 1 < length c.args.spots.now =
    omega (arith, c.loop-i-test.true, c.loop-i.auto.i-end, c.saturating_sub-i-end.ensures) in
    fan_more c.args.spots.now c.loop-i.i c.loop-i.fan.items _ c.named.result l
    (c.named.ensures ∙ ap named c.fan_triangle.ensures) c.in_ok-push.ensures.ok
    ∙ c.loop-i.invariant

pub returns : goal.returns
returns c =
    let l : length c.args.spots.now ≤ c.loop-i.i + 1 =
    omega (arith, c.loop-i-test.false, c.loop-i.auto, c.saturating_sub-i-end.ensures) in
    sym (append-nil c.loop-i.fan.items)
    ∙ ap (λ (ts : List Triangle). c.loop-i.fan.items ++ map named ts)
    (sym (fan_ends c.args.spots.now (slice_index_or c.args.spots.now 0 nowhere) c.loop-i.i l))
    ∙ c.loop-i.invariant
