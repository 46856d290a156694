use Rattle.std.proofs.Common.{◌≡◌, ◌-◌, false, length, slice_index_or, arith}
use Rattle.std.specs.Prelude.{◌+ℤ◌}
use Rattle.std.proofs.lemmas.Int.{ints}
use Rattle.pm_ears.specs.declared.plane.Plane.{Plane}
use Rattle.pm_ears.specs.Areas.{nowhere, cross_of, along}
use Rattle.pm_ears.specs.Planes.{spots_on, newell}
use Rattle.pm_ears.proofs.Rows.{as_many_spots, within_by_ends, area_kept, some_long}
use Rattle.pm_ears.proofs.plane.area_within.Goals as goal

pub returns : goal.returns
returns c =
    let plane : Plane = record { across = c.args.across; mirrored = false } in
    let points = c.args.points.now in
    let spots = spots_on plane 0 points in
    let last = length points - 1 in
    let some = some_long (length points) c.if-is_empty.ensures in
    let long = as_many_spots plane 0 points in
    let ends : newell c.args.across points
    ≡ along spots +ℤ cross_of (slice_index_or spots last nowhere)
    (slice_index_or spots 0 nowhere) =
    within_by_ends spots last (omega (arith, some, long)) in
    let kept_along = area_kept c.area_along.result (omega (arith, c.area_along.ensures.small)) in
    let kept_cross = area_kept c.cross_at.result (omega (arith, c.cross_at.ensures.small)) in
    let small = c.add.ensures.small in
    let all = area_kept c.add.result (omega
    (arith, ints, small, kept_along, c.area_along.ensures.small)) in
    let value = c.add.ensures.value in
    let path = c.area_along.ensures.value in
    let cross = c.cross_at.ensures.value in
    omega (arith, ints, all, value, kept_along, kept_cross, path, cross, ends)
