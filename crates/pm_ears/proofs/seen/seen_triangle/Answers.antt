use Rattle.std.proofs.Common.{false}
use Rattle.pm_ears.specs.declared.plane.Plane.{Plane}
use Rattle.pm_ears.proofs.Rows.{seen_fan}
use Rattle.pm_ears.proofs.seen.seen_triangle.Goals as goal

pub returns : goal.returns
returns c =
    let plane : Plane = record { across = c.args.axis; mirrored = false } in
    seen_fan plane c.args.points.now c.args.i c.index-points-0.result c.index-points-i.result
    c.index-points-i-2.result c.requires.i c.index-points-0.is c.index-points-i.is
    c.index-points-i-2.is _ c.spot_at.ensures c.spot_at-2.ensures c.spot_at-3.ensures
