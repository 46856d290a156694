use Rattle.std.proofs.Common.{◌≡◌, ◌<◌, ◌∙◌, length, slice_index_or, ap, arith}
use Rattle.pm_base.specs.Meshes.{Mesh}
use Rattle.pm_fine.specs.Normals.{halved}
use Rattle.pm_fine_costs.specs.FineCosts.{no_quadrics}
use Rattle.pm_fine_costs.proofs.PointLaws.{point_fits, both_fit, point_brought, point_all}
use Rattle.pm_fine_costs.proofs.first.first_quadrics.Goals as goal

pub add_points-requires-clause-brought_few : goal.add_points-requires-clause-brought_few
add_points-requires-clause-brought_few c = λ v l.
    let mesh : Mesh = c.args.surface.now in
    let points : c.as_slice.result.now ≡ mesh.points =
    c.as_slice.ensures ∙ ap (λ (k : Mesh). k.points) c.mesh.ensures in
    point_fits mesh v c.invariant.ensures.formed halved
    (slice_index_or c.in_ok-quadrics.quadrics.items v no_quadrics).brought
    (c.in_ok-quadrics.ensures.brought v (omega (arith, l, ap length points)))

pub add_points-requires-clause-all_few : goal.add_points-requires-clause-all_few
add_points-requires-clause-all_few c = λ v l.
    let mesh : Mesh = c.args.surface.now in
    let points : c.as_slice.result.now ≡ mesh.points =
    c.as_slice.ensures ∙ ap (λ (k : Mesh). k.points) c.mesh.ensures in
    both_fit mesh v c.invariant.ensures.formed
    (slice_index_or c.in_ok-quadrics.quadrics.items v no_quadrics).all
    (c.in_ok-quadrics.ensures.all v (omega (arith, l, ap length points)))

pub returns-clause-brought : goal.returns-clause-brought
returns-clause-brought c = λ v l.
    let mesh : Mesh = c.args.surface.now in
    let points : c.as_slice.result.now ≡ mesh.points =
    c.as_slice.ensures ∙ ap (λ (k : Mesh). k.points) c.mesh.ensures in
    let low : v < length c.as_slice.result.now = omega (arith, l, ap length points) in
    point_brought mesh v (slice_index_or c.in_ok-quadrics.quadrics.items v no_quadrics)
    (slice_index_or c.add_points.new.quadrics.items v no_quadrics) c.as_slice.result.now points
    (c.add_points.ensures.each v low) (c.in_ok-quadrics.ensures.brought v l)

pub returns-clause-all : goal.returns-clause-all
returns-clause-all c = λ v l.
    let mesh : Mesh = c.args.surface.now in
    let points : c.as_slice.result.now ≡ mesh.points =
    c.as_slice.ensures ∙ ap (λ (k : Mesh). k.points) c.mesh.ensures in
    let low : v < length c.as_slice.result.now = omega (arith, l, ap length points) in
    point_all mesh v (slice_index_or c.in_ok-quadrics.quadrics.items v no_quadrics)
    (slice_index_or c.add_points.new.quadrics.items v no_quadrics) c.as_slice.result.now points
    (c.add_points.ensures.each v low) (c.in_ok-quadrics.ensures.all v l)
