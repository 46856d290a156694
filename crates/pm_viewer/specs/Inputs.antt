-- Which vertices and faces of the input nodes and faces are, as arrays tell it.
use Rattle.std.specs.Prelude.{◌≡◌, ℕ, ◌≤◌, List, take, drop}
use Rattle.pm_forest.specs.Forest.{Hierarchy, node_count}
use Rattle.pm_forest.specs.Faces.{face_count}
use Rattle.pm_paint.specs.Inputs.{vertices_by_node, faces_by_face}

-- There is room for a number for each node and for each face.
abbrev pub InputsFit : Hierarchy → ℕ → ℕ → Type 0
InputsFit h nodes faces = (node_count h ≤ nodes) × (face_count h ≤ faces)

-- The vertices by node and the faces by face stand at the front of arrays, and what stands behind
-- them is as it was.
pub record AreInputsOf (h : Hierarchy) (by_node by_face by_node_now by_face_now : List ℕ) :
    Type 0 where
  pub nodes : take (node_count h) by_node_now ≡ vertices_by_node h
  pub faces : take (face_count h) by_face_now ≡ faces_by_face h
  pub nodes_stay : drop (node_count h) by_node_now ≡ drop (node_count h) by_node
  pub faces_stay : drop (face_count h) by_face_now ≡ drop (face_count h) by_face
