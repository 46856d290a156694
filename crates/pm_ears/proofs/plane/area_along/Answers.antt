use Rattle.std.proofs.Common.{arith}
use Rattle.std.proofs.lemmas.Int.{ints}
use Rattle.pm_ears.specs.Planes.{spots_on}
use Rattle.pm_ears.proofs.Rows.{as_many_spots, along_next, along_ends, area_kept}
use Rattle.pm_ears.proofs.plane.area_along.Goals as goal

pub add-sum-requires-clause-sum : goal.add-sum-requires-clause-sum
add-sum-requires-clause-sum c =
    let small = c.loop-i.invariant.small in
    omega (arith, small, c.loop-i-test.true, c.saturating_sub-i-end.ensures, c.requires)

pub loop-i-preserved : goal.loop-i-preserved
loop-i-preserved c =
    let spots = spots_on c.args.plane 0 c.args.points.now in
    let long = as_many_spots c.args.plane 0 c.args.points.now in
    let step = along_next spots c.loop-i.i (omega
    (arith, long, c.loop-i-test.true, c.saturating_sub-i-end.ensures)) in
    let cross = c.cross_at.ensures.value in
    let kept = area_kept c.cross_at.result (omega (arith, c.cross_at.ensures.small)) in
    let small = c.loop-i.invariant.small in
    let value = c.loop-i.invariant.value in
    let sum = c.add-sum.ensures.value in
    let low = c.add-sum.ensures.small in
    let all = area_kept c.add-sum.result (omega
    (arith, low, small, c.loop-i-test.true, c.saturating_sub-i-end.ensures, c.requires)) in
    record {
      value = omega (arith, ints, all, sum, kept, cross, step, value);
      small = rw all (omega (arith, low, small));
    }

pub returns-clause-value : goal.returns-clause-value
returns-clause-value c =
    let spots = spots_on c.args.plane 0 c.args.points.now in
    let long = as_many_spots c.args.plane 0 c.args.points.now in
    let end = along_ends spots c.loop-i.i (omega
    (arith, long, c.loop-i-test.false, c.saturating_sub-i-end.ensures)) in
    let value = c.loop-i.invariant.value in
    omega (arith, ints, end, value)

pub returns-clause-small : goal.returns-clause-small
returns-clause-small c =
    let small = c.loop-i.invariant.small in
    omega (arith, small, c.loop-i.auto.i-end, c.saturating_sub-i-end.ensures, c.requires)
