use Rattle.std.proofs.Common.{◌^◌, ◌*◌, w32, lit<, arith}
use Rattle.pm_base.proofs.ReadBack.{read_is}
use Rattle.obj_prepare.proofs.BoxLaws.{scaled_at}
use Rattle.obj_fit.proofs.fine.scaled_finely.Goals as goal

pub returns : goal.returns
returns c =
    let fx = read_is w32 c.place_x-x.result (2 ^ 27) c.place_x-x.ensures.within (lit< tt) in
    let fy = read_is w32 c.place_y-y.result (2 ^ 27) c.place_y-y.ensures.within (lit< tt) in
    let fz = read_is w32 c.place_z-z.result (2 ^ 27) c.place_z-z.ensures.within (lit< tt) in
    rw (c.fine_point-2.ensures, fx, fy, fz)
    (scaled_at (4096 * c.args.size) c.extent-e.result c.args.b.now c.args.p.now
    c.place_x-x.result c.place_y-y.result c.place_z-z.result
    c.extent-e.ensures.value (omega (arith, c.if-e-eq0.false)) c.place_x-x.ensures.value
    c.place_y-y.ensures.value c.place_z-z.ensures.value)
