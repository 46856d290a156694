use Rattle.std.proofs.Common.{◌≡◌, ◌*◌, length, take, filter}
use Rattle.std.specs.List.{flat_map}
use Rattle.pm_base.specs.Counts.{set_of, count, numbers_below}
use Rattle.pm_forest.specs.Kept.{is_kept}
use Rattle.pm_front.specs.Shown.{kept_faces}
use Rattle.pm_arrays.specs.Arrays.{face_nodes, face_positions}
use Rattle.pm_arrays.proofs.faces.write_faces.Given as goal

abbrev pub invariant-loop-face : goal.invariant-loop-face
invariant-loop-face l = record {
  counted : l.count ≡ count (is_kept l.front.h (set_of l.front.flags)) l.face;
  stored : take l.count l.faces ≡ filter (is_kept l.front.h (set_of l.front.flags))
      (numbers_below l.face);
  cornered : take (3 * l.count) l.corners
      ≡ flat_map (face_positions l.front.h (set_of l.front.flags))
      (filter (is_kept l.front.h (set_of l.front.flags)) (numbers_below l.face));
  pointed : take (3 * l.count) l.nodes ≡ flat_map (face_nodes l.front.h (set_of l.front.flags))
      (filter (is_kept l.front.h (set_of l.front.flags)) (numbers_below l.face));
  faces_len : length l.faces ≡ length (kept_faces l.front.h (set_of l.front.flags));
  corners_len : length l.corners ≡ 3 * length (kept_faces l.front.h (set_of l.front.flags));
  nodes_len : length l.nodes ≡ 3 * length (kept_faces l.front.h (set_of l.front.flags));
}
