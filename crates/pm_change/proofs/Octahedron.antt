-- The definitions at an octahedron with two records: they compute.
use Rattle.std.proofs.Common.{◌≡◌, [], ◌∷◌, map, refl}
use Rattle.pm_forest.specs.Forest.{s_of, splitter_of, interval_after, holds}
use Rattle.pm_forest.specs.Fronts.{below, is_active, ancestor_after}
use Rattle.pm_forest.specs.Faces.{first_face, revealed_after, is_left, corners_of, from_leaf}
use Rattle.pm_forest.specs.Kept.{is_kept}
use Rattle.pm_forest.specs.Places.{place_of_node}
use Rattle.pm_beyond.proofs.Octahedron.{octahedron}
use Rattle.pm_change.specs.Changes.{is_put, gone_nodes, gone_faces, new_nodes, put_faces}
use Rattle.pm_morph.specs.Laws.{shown_face_at}
use Rattle.pm_change.specs.Shown.{node_number}

-- Record 0 splits node 3 into 4 and 5.
split_gone : gone_nodes octahedron (below 0) (below 1) ≡ 3 ∷ []
unfolding is_active splitter_of s_of
split_gone = refl

split_new : map node_number (new_nodes octahedron (below 0) (below 1)) ≡ 4 ∷ 5 ∷ []
unfolding is_active splitter_of s_of place_of_node
split_new = refl

split_no_face : gone_faces octahedron (below 0) (below 1) ≡ []
unfolding is_kept ancestor_after holds interval_after s_of from_leaf corners_of is_left
    revealed_after first_face
split_no_face = refl

-- All faces but face 3 are put: each has a corner that was at node 3.
split_put : put_faces octahedron (below 0) (below 1)
    ≡ map (shown_face_at octahedron (below 1)) (0 ∷ 1 ∷ 2 ∷ 4 ∷ 5 ∷ [])
unfolding is_put is_kept ancestor_after holds interval_after s_of from_leaf corners_of is_left
    revealed_after first_face
split_put = refl

back_gone : gone_faces octahedron (below 2) (below 0) ≡ 4 ∷ 5 ∷ 6 ∷ 7 ∷ []
unfolding is_kept ancestor_after holds interval_after s_of from_leaf corners_of is_left
    revealed_after first_face
back_gone = refl

back_new : map node_number (new_nodes octahedron (below 2) (below 0)) ≡ 2 ∷ 3 ∷ []
unfolding is_active splitter_of s_of place_of_node
back_new = refl
