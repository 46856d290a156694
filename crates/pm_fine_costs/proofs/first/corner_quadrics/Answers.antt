use Rattle.std.proofs.Common.{◌≡◌, ◌∙◌, ℕ, ◌*◌, ◌<◌, ◌++◌, List, length, ap, arith}
use Rattle.std.specs.Prelude.{slice_index_or}
use Rattle.std.proofs.lemmas.List.{length-set}
use Rattle.pm_base.specs.declared.mesh.Corners.{Corners}
use Rattle.pm_base.specs.Meshes.{Mesh}
use Rattle.pm_base.specs.Sides.{net_of}
use Rattle.pm_base.proofs.NetLaws.{mesh_side}
use Rattle.pm_quadric.specs.Planes.{Plane}
use Rattle.pm_quadric.specs.Sums.{sums_of}
use Rattle.pm_runs.specs.Surfaces.{surface_of}
use Rattle.pm_fine.specs.Normals.{halved, doubled}
use Rattle.pm_fine_costs.specs.FinePolicy.{planes_round}
use Rattle.pm_fine_costs.specs.FineCosts.{no_quadrics}
use Rattle.pm_fine_costs.proofs.FirstLaws.{below_all, below_fits, both_fit, brought_more, all_more}
use Rattle.pm_fine_costs.proofs.FirstLaws.{planes_below}
use Rattle.pm_fine_costs.proofs.first.corner_quadrics.Goals as goal

pub add_corner-requires-clause-within : goal.add_corner-requires-clause-within
add_corner-requires-clause-within c =
    let mesh : Mesh = c.args.surface.now in
    let faces : c.as_slice-faces.result.now ≡ mesh.faces =
    c.as_slice-faces.ensures ∙ ap (λ (k : Mesh). k.faces) c.mesh-mesh.ensures in
    let low : c.loop-number.number < 3 * length mesh.faces = omega (arith, ap length faces) in
    let at : c.vertex_of.result ≡ (net_of mesh.faces).from c.loop-number.number =
    c.vertex_of.ensures ∙ ap (λ (k : List Corners). (net_of k).from c.loop-number.number) faces in
    let side = (mesh_side mesh c.invariant.ensures.formed c.loop-number.number low).1 in
    omega (arith, at, side, c.loop-number.invariant.len)

pub add_corner-requires-clause-brought_few : goal.add_corner-requires-clause-brought_few
add_corner-requires-clause-brought_few c =
    let mesh : Mesh = c.args.surface.now in
    let faces : c.as_slice-faces.result.now ≡ mesh.faces =
    c.as_slice-faces.ensures ∙ ap (λ (k : Mesh). k.faces) c.mesh-mesh.ensures in
    let low : c.loop-number.number < 3 * length mesh.faces = omega (arith, ap length faces) in
    let at : c.vertex_of.result ≡ (net_of mesh.faces).from c.loop-number.number =
    c.vertex_of.ensures ∙ ap (λ (k : List Corners). (net_of k).from c.loop-number.number) faces in
    let side = (mesh_side mesh c.invariant.ensures.formed c.loop-number.number low).1 in
    let within : c.vertex_of.result < length mesh.points = omega (arith, at, side) in
    below_fits mesh c.invariant.ensures.formed c.loop-number.number low halved c.vertex_of.result
    (slice_index_or c.loop-number.quadrics.items c.vertex_of.result no_quadrics).brought
    (c.loop-number.invariant.brought c.vertex_of.result within)

pub add_corner-requires-clause-all_few : goal.add_corner-requires-clause-all_few
add_corner-requires-clause-all_few c =
    let mesh : Mesh = c.args.surface.now in
    let faces : c.as_slice-faces.result.now ≡ mesh.faces =
    c.as_slice-faces.ensures ∙ ap (λ (k : Mesh). k.faces) c.mesh-mesh.ensures in
    let low : c.loop-number.number < 3 * length mesh.faces = omega (arith, ap length faces) in
    let at : c.vertex_of.result ≡ (net_of mesh.faces).from c.loop-number.number =
    c.vertex_of.ensures ∙ ap (λ (k : List Corners). (net_of k).from c.loop-number.number) faces in
    let side = (mesh_side mesh c.invariant.ensures.formed c.loop-number.number low).1 in
    let within : c.vertex_of.result < length mesh.points = omega (arith, at, side) in
    both_fit mesh c.invariant.ensures.formed c.loop-number.number low c.vertex_of.result
    (slice_index_or c.loop-number.quadrics.items c.vertex_of.result no_quadrics).all
    (c.loop-number.invariant.all c.vertex_of.result within)

pub loop-number-preserved : goal.loop-number-preserved
loop-number-preserved c =
    let mesh : Mesh = c.args.surface.now in
    let n : ℕ = c.loop-number.number in
    let faces : c.as_slice-faces.result.now ≡ mesh.faces =
    c.as_slice-faces.ensures ∙ ap (λ (k : Mesh). k.faces) c.mesh-mesh.ensures in
    let low : n < 3 * length mesh.faces = omega (arith, ap length faces) in
    let at : c.vertex_of.result ≡ (net_of mesh.faces).from n =
    c.vertex_of.ensures ∙ ap (λ (k : List Corners). (net_of k).from n) faces in
    let side = (mesh_side mesh c.invariant.ensures.formed n low).1 in
    let within : c.vertex_of.result < length c.loop-number.quadrics.items =
    omega (arith, at, side, c.loop-number.invariant.len) in
    record {
      len = ap length c.add_corner.ensures ∙ length-set _ _ _ ∙ c.loop-number.invariant.len;
      brought = λ v l. brought_more mesh c.invariant.ensures.formed n low
          c.loop-number.quadrics.items c.add_corner.new.quadrics.items c.vertex_of.result v
          c.corner_of.result within at c.corner_of.ensures c.add_corner.ensures
          (c.loop-number.invariant.brought v l);
      all = λ v l. all_more mesh c.invariant.ensures.formed n low
          c.loop-number.quadrics.items c.add_corner.new.quadrics.items c.vertex_of.result v
          c.corner_of.result within at c.corner_of.ensures c.add_corner.ensures
          (c.loop-number.invariant.all v l);
    }

pub returns-clause-brought : goal.returns-clause-brought
returns-clause-brought c = λ v l.
    let mesh : Mesh = c.args.surface.now in
    let faces : c.as_slice-faces.result.now ≡ mesh.faces =
    c.as_slice-faces.ensures ∙ ap (λ (k : Mesh). k.faces) c.mesh-mesh.ensures in
    let all : c.loop-number.number ≡ 3 * length mesh.faces = omega (arith, ap length faces) in
    c.loop-number.invariant.brought v l
    ∙ ap sums_of (below_all mesh halved v c.loop-number.number all)

pub returns-clause-all : goal.returns-clause-all
returns-clause-all c = λ v l.
    let mesh : Mesh = c.args.surface.now in
    let faces : c.as_slice-faces.result.now ≡ mesh.faces =
    c.as_slice-faces.ensures ∙ ap (λ (k : Mesh). k.faces) c.mesh-mesh.ensures in
    let all : c.loop-number.number ≡ 3 * length mesh.faces = omega (arith, ap length faces) in
    let n : ℕ = c.loop-number.number in
    c.loop-number.invariant.all v l
    ∙ ap (λ (k : List Plane). sums_of (k ++ planes_below mesh halved v n))
    (below_all mesh doubled v n all)
    ∙ ap (λ (k : List Plane). sums_of (planes_round doubled (surface_of mesh) v ++ k))
    (below_all mesh halved v n all)
