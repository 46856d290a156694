use Rattle.std.proofs.Common.{List, ◌-◌, ◌++◌, ◌∷◌, [], take, slice_index_or, sym, ◌∙◌, ap, arith}
use Rattle.std.proofs.Common.{append_assoc}
use Rattle.pm_base.specs.declared.mesh.Corners.{Corners}
use Rattle.obj_scan.specs.Polygons.{fan}
use Rattle.obj_scan.proofs.PolygonLaws.{fan_next}
use Rattle.obj_scan.proofs.polygons.push_fan.Goals as goal

pub loop-i-preserved : goal.loop-i-preserved
loop-i-preserved c =
    let rest = c.args.rest.now in
    let i = c.loop-i.i in
    let next : Corners = record {
      a = c.args.a;
      b = slice_index_or rest (i - 1) 0;
      c = slice_index_or rest i 0;
    } in
    record {
      some = omega arith;
      within = omega (arith, c.loop-i-test.true);
      faces = c.in_ok-push.ensures.items
          ∙ ap (λ (l : List Corners). l ++ next ∷ []) c.loop-i.invariant.faces
          ∙ append_assoc c.args.faces.now.items (fan c.args.a (take i rest)) (next ∷ [])
          ∙ ap (λ (l : List Corners). c.args.faces.now.items ++ l)
          (sym (fan_next c.args.a rest i c.loop-i.invariant.some c.loop-i-test.true));
    }
