use Rattle.std.proofs.Common.{◌≡◌, ◌-◌, map, ap, ◌∙◌, sym, arith}
use Rattle.std.specs.List.{range_with_len}
use Rattle.std.proofs.lemmas.List.{length-set, take_more_set, take_all}
use Rattle.std.proofs.lemmas.List.FromFn.{map-range_with_len_more}
use Rattle.pm_forest.specs.Faces.{face_count}
use Rattle.pm_forest.specs.Meshes.{face_input}
use Rattle.pm_paint.specs.Inputs.{faces_by_face}
use Rattle.pm_paint.proofs.inputs.write_faces.Goals as goal

pub loop-f-preserved : goal.loop-f-preserved
loop-f-preserved c =
    let h = c.args.h.now in
    let i = c.loop-f.f in
    let was = c.loop-f.invariant in
    record {
      len = simp length-set was.len;
      front = take_more_set c.loop-f.by_face i _ (omega (arith, was.len))
          ∙ rw (was.front, c.face_of.ensures) (sym (map-range_with_len_more
          (λ f. face_input h f - 1) 0 i i (omega arith)));
    }

pub returns : goal.returns
unfolding faces_by_face
returns c =
    let h = c.args.h.now in
    let was = c.loop-f.invariant in
    let end : c.loop-f.f ≡ face_count h = omega arith in
    sym (take_all _ _ (omega (arith, was.len, end))) ∙ was.front
    ∙ ap (λ n. map (λ f. face_input h f - 1) (range_with_len 0 n)) end
