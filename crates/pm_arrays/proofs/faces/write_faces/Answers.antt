use Rattle.std.proofs.Common.{◌+◌, ◌<◌, refl, sym, ap, ◌∙◌, arith}
use Rattle.std.specs.List.{flat_map}
use Rattle.pm_base.specs.Counts.{set_of}
use Rattle.pm_base.proofs.Counts.{count-zero}
use Rattle.pm_forest.specs.Faces.{face_count}
use Rattle.pm_forest.specs.Kept.{is_kept}
use Rattle.pm_arrays.specs.Arrays.{face_nodes, face_positions}
use Rattle.pm_arrays.proofs.PositionLaws.{position_below}
use Rattle.pm_arrays.proofs.ArrayLaws.{count_on, numbers_on, threes_on, count_stays, numbers_stay}
use Rattle.pm_arrays.proofs.faces.write_faces.Goals.{then-is_kept, else-is_kept}
use Rattle.pm_arrays.proofs.faces.write_faces.Goals as goal

pub loop-face-init : goal.loop-face-init
loop-face-init c = record {
  counted = sym (count-zero (is_kept c.args.front.now.h (set_of c.args.front.now.flags)));
  stored = refl;
  cornered = refl;
  pointed = refl;
  faces_len = c.requires.faces_fit;
  corners_len = c.requires.corners_fit;
  nodes_len = c.requires.nodes_fit;
}

pub store-requires : goal.store-requires
store-requires c =
    let h = c.args.front.now.h in
    let i = c.loop-face.invariant in
    let there : c.loop-face.face < face_count h =
    omega (arith, ap face_count c.hierarchy.ensures) in
    let pass = sym c.is_kept.ensures ∙ c.if-is_kept.true in
    let below = position_below (is_kept h (set_of c.args.front.now.flags)) c.loop-face.face
    (face_count h) there pass in
    omega (arith, below, i.counted, i.faces_len)

pub loop-face-preserved : goal.loop-face-preserved
loop-face-preserved c =
    let h = c.args.front.now.h in
    let T = set_of c.args.front.now.flags in
    let i = c.loop-face.invariant in
    let f = c.loop-face.face in
    elim c.if-is_kept.branch [
      | then-is_kept w ↦
          let pass = sym c.is_kept.ensures ∙ w.if-is_kept.true in
          rw (w.count-is, w.faces-is, w.nodes-is, w.corners-is) (record {
            counted = ap (λ k. k + 1) i.counted ∙ sym (count_on (is_kept h T) f pass);
            stored = numbers_on (is_kept h T) f c.loop-face.count _ _ pass i.counted i.stored
                w.store.ensures.stored;
            cornered = threes_on (is_kept h T) (face_positions h T) f c.loop-face.count
                (c.loop-face.count + 1) _ _ _ pass w.corners_at-at.ensures.positions i.cornered
                w.store_three-then-is_kept.ensures.stored;
            pointed = threes_on (is_kept h T) (face_nodes h T) f c.loop-face.count
                (c.loop-face.count + 1) _ _ _ pass w.corners_at-at.ensures.nodes i.pointed
                w.store_three.ensures.stored;
            faces_len = w.store.ensures.len ∙ i.faces_len;
            corners_len = w.store_three-then-is_kept.ensures.len ∙ i.corners_len;
            nodes_len = w.store_three.ensures.len ∙ i.nodes_len;
          })
      | else-is_kept w ↦
          let fail = sym c.is_kept.ensures ∙ w.if-is_kept.false in
          rw (w.count-is, w.faces-is, w.nodes-is, w.corners-is) (record {
            counted = i.counted ∙ sym (count_stays (is_kept h T) f fail);
            stored = numbers_stay (is_kept h T) (λ xs. xs) f _ fail i.stored;
            cornered = numbers_stay (is_kept h T) (λ xs. flat_map (face_positions h T) xs) f _ fail
                i.cornered;
            pointed = numbers_stay (is_kept h T) (λ xs. flat_map (face_nodes h T) xs) f _ fail
                i.pointed;
            faces_len = i.faces_len;
            corners_len = i.corners_len;
            nodes_len = i.nodes_len;
          })
    ]
