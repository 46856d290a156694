use Rattle.std.proofs.Common.{length, ◌≡◌, ◌<◌, ◌∙◌, subst, arith, get_or}
use Rattle.pm_base.specs.Place.{origin}
use Rattle.obj_scan.proofs.PolygonLaws.{HasLeast, point_at, read_any, before_is, least_here}
use Rattle.obj_scan.proofs.PolygonLaws.{least_stays, least_is}
use Rattle.obj_scan.proofs.polygons.before_least.Goals as goal
use Rattle.obj_scan.proofs.polygons.before_least.Goals.{then-is_before, else-is_before}

pub loop-i-preserved : goal.loop-i-preserved
loop-i-preserved c =
    let points = c.args.points.now in
    let corners = c.args.corners.now in
    let i = c.loop-i.i in
    let n = c.loop-i.least in
    let under : n < length corners = omega (arith, c.loop-i.invariant.within, c.loop-i-test.true) in
    let first : c.index-points-c.result ≡ point_at points corners i =
    c.index-points-c.is ∙ read_any points (get_or corners i 0) c.index-points-c.result origin
    (c.requires i 0 c.loop-i-test.true) in
    let second : c.index-points-corners.result ≡ point_at points corners n =
    c.index-points-corners.is
    ∙ read_any points (get_or corners n 0) c.index-points-corners.result origin
    (c.requires n 0 under) in
    elim c.if-is_before.branch [
      | then-is_before w ↦
          rw w.least-is
          (least_here points corners i n c.loop-i.invariant
          (before_is c.index-points-c.result c.index-points-corners.result
          (point_at points corners i) (point_at points corners n) c.is_before.result _ first second
          c.is_before.ensures w.if-is_before.true))
      | else-is_before w ↦
          rw w.least-is
          (least_stays points corners i n c.loop-i.invariant
          (before_is c.index-points-c.result c.index-points-corners.result
          (point_at points corners i) (point_at points corners n) c.is_before.result _ first second
          c.is_before.ensures w.if-is_before.false))
    ]

pub returns-clause-value : goal.returns-clause-value
returns-clause-value c =
    let e : c.loop-i.i ≡ length c.args.corners.now =
    omega (arith, c.loop-i-test.false, c.loop-i.auto.i-end) in
    least_is c.args.points.now c.args.corners.now c.loop-i.least
    (subst (λ i. HasLeast c.args.points.now c.args.corners.now i c.loop-i.least) e
    c.loop-i.invariant)
