use Rattle.std.proofs.Common.{arith}
use Rattle.pm_base.proofs.Range.{coordinate_kept}
use Rattle.obj_prepare.proofs.BoxLaws.{scaled_at}
use Rattle.obj_prepare.proofs.extents.scaled.Goals as goal

pub returns : goal.returns
returns c =
    let fx = coordinate_kept c.place_x-x.result c.place_x-x.ensures.within in
    let fy = coordinate_kept c.place_y-y.result c.place_y-y.ensures.within in
    let fz = coordinate_kept c.place_z-z.result c.place_z-z.ensures.within in
    rw (c.point-2.ensures, fx, fy, fz)
    (scaled_at c.args.size c.extent-e.result c.args.b.now c.args.p.now c.place_x-x.result
    c.place_y-y.result c.place_z-z.result
    c.extent-e.ensures.value (omega (arith, c.if-e-eq0.false)) c.place_x-x.ensures.value
    c.place_y-y.ensures.value c.place_z-z.ensures.value)
