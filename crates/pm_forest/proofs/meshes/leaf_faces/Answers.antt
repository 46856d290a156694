use Rattle.std.proofs.Common.{◌∙◌, map, sym, ap, arith}
use Rattle.std.proofs.lemmas.List.{map_more, take_all}
use Rattle.pm_forest.specs.Faces.{faces_of, no_face_corners}
use Rattle.pm_forest.specs.Meshes.{leaf_corners}
use Rattle.pm_forest.proofs.FaceLists.{length-faces_of}
use Rattle.pm_forest.proofs.meshes.leaf_faces.Goals as goal

pub loop-f-preserved : goal.loop-f-preserved
loop-f-preserved c =
    let h = c.args.h.now in
    let f = c.loop-f.f in
    record {
      faces = rw (
        c.push_within_room.ensures.items,
        c.loop-f.invariant.faces,
        c.face_at-a.ensures.value,
      )
          (sym (map_more leaf_corners (faces_of h) f no_face_corners
          (omega (arith, length-faces_of h))));
      spare = omega arith;
    }

pub returns : goal.returns
returns c =
    let h = c.args.h.now in
    c.loop-f.invariant.faces
    ∙ ap (map leaf_corners)
    (take_all c.loop-f.f (faces_of h) (omega (arith, length-faces_of h)))
