use Rattle.std.proofs.Common.{◌<◌, ◌∙◌, sym, subst, ap, arith}
use Rattle.std.proofs.lemmas.List.{get_or_read}
use Rattle.std.proofs.lemmas.List.FromFn.{map-range_with_len_more}
use Rattle.pm_forest.specs.Faces.{face_count, corners_of}
use Rattle.pm_forest.specs.Meshes.{face_input, input_corners, input_face}
use Rattle.pm_forest.proofs.MeshLaws.{numbered_so-lt}
use Rattle.pm_forest.proofs.meshes.input_faces.Goals as goal

pub input_corners-requires-clause-face : goal.input_corners-requires-clause-face
input_corners-requires-clause-face c =
    let h = c.args.h.now in
    let i = c.loop-i.i in
    let l : i < face_count h = omega (arith, c.in_ok-numbers.ensures.len) in
    let read = get_or_read c.in_ok-numbers.numbers.items i c.index.result.now
    (omega (arith, c.in_ok-numbers.ensures.len)) c.index.ensures 0 in
    subst (λ n. n < face_count h) (sym (read ∙ c.in_ok-numbers.ensures.each i l))
    (numbered_so-lt (face_input h) (face_count h) i l)

pub loop-i-preserved : goal.loop-i-preserved
loop-i-preserved c =
    let h = c.args.h.now in
    let i = c.loop-i.i in
    let l : i < face_count h = omega (arith, c.in_ok-numbers.ensures.len) in
    let read = get_or_read c.in_ok-numbers.numbers.items i c.index.result.now
    (omega (arith, c.in_ok-numbers.ensures.len)) c.index.ensures 0 in
    let corners =
    c.input_corners.ensures
    ∙ ap (λ f. input_corners h (corners_of h f)) (read ∙ c.in_ok-numbers.ensures.each i l) in
    record {
      faces = rw (c.push_within_room.ensures.items, c.loop-i.invariant.faces, corners)
          (sym (map-range_with_len_more (input_face h) 0 i i (omega arith)));
      spare = omega arith;
    }
