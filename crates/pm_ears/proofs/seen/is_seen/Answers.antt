use Rattle.std.proofs.Common.{◌≡◌, ◌<◌, ◌≤◌, ◌+◌, true, false, length, ap, sym, ◌∙◌}
use Rattle.std.proofs.Common.{slice_index_or, arith}
use Rattle.std.specs.List.{list_any}
use Rattle.pm_ears.specs.declared.plane.Plane.{Plane}
use Rattle.pm_ears.specs.Areas.{nowhere}
use Rattle.pm_ears.specs.Counted.{fan_triangle}
use Rattle.pm_ears.specs.Fans.{has_area}
use Rattle.pm_ears.specs.Planes.{spots_along, spots_on}
use Rattle.pm_ears.proofs.Rows.{as_many_spots, fan_begins, area_next, fan_ends}
use Rattle.pm_ears.proofs.seen.is_seen.Goals as goal

pub loop-i-init : goal.loop-i-init
loop-i-init c =
    ap (list_any has_area) (fan_begins (spots_along c.args.axis c.args.points.now))

pub returns-then-has_area : goal.returns-then-has_area
returns-then-has_area c =
    let plane : Plane = record { across = c.args.axis; mirrored = false } in
    let spots = spots_on plane 0 c.args.points.now in
    let long = as_many_spots plane 0 c.args.points.now in
    let l : c.loop-i.i + 1 < length spots =
    omega (arith, long, c.loop-i-test.true, c.loop-i.auto.i-end, c.saturating_sub-i-end.ensures) in
    let has : has_area (fan_triangle spots c.loop-i.i) ≡ true =
    sym (ap has_area c.seen_triangle.ensures) ∙ sym c.has_area.ensures ∙ c.if-has_area.true in
    sym (area_next spots c.loop-i.i true l has) ∙ c.loop-i.invariant

pub loop-i-preserved : goal.loop-i-preserved
loop-i-preserved c =
    let plane : Plane = record { across = c.args.axis; mirrored = false } in
    let spots = spots_on plane 0 c.args.points.now in
    let long = as_many_spots plane 0 c.args.points.now in
    let l : c.loop-i.i + 1 < length spots =
    omega (arith, long, c.loop-i-test.true, c.loop-i.auto.i-end, c.saturating_sub-i-end.ensures) in
    let has : has_area (fan_triangle spots c.loop-i.i) ≡ false =
    sym (ap has_area c.seen_triangle.ensures) ∙ sym c.has_area.ensures ∙ c.if-has_area.false in
    sym (area_next spots c.loop-i.i false l has) ∙ c.loop-i.invariant

pub returns : goal.returns
returns c =
    let plane : Plane = record { across = c.args.axis; mirrored = false } in
    let spots = spots_on plane 0 c.args.points.now in
    let long = as_many_spots plane 0 c.args.points.now in
    let l : length spots ≤ c.loop-i.i + 1 =
    omega (arith, long, c.loop-i-test.false, c.loop-i.auto, c.saturating_sub-i-end.ensures) in
    sym (ap (list_any has_area) (fan_ends spots (slice_index_or spots 0 nowhere) c.loop-i.i l))
    ∙ c.loop-i.invariant
