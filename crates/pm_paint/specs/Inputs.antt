-- Which vertices and faces of the input a hierarchy's nodes and faces are.
use Rattle.std.specs.Prelude.{ℕ, zero, suc, ◌-◌, List, map}
use Rattle.std.specs.List.{range_with_len}
use Rattle.pm_forest.specs.Forest.{Hierarchy, node_count}
use Rattle.pm_forest.specs.Faces.{face_count}
use Rattle.pm_forest.specs.Meshes.{input_of_node, face_input}

-- The number from 0 for the n-th vertex, and 4,294,967,295 where there is none.
abbrev pub vertex_told : ℕ → ℕ
vertex_told zero = 4294967295
vertex_told (suc i) = i

-- For each node the vertex of the input, from 0; none for a node of more than one leaf.
unfoldable pub vertices_by_node : Hierarchy → List ℕ
vertices_by_node h = map (λ v. vertex_told (input_of_node h v)) (range_with_len 0 (node_count h))

-- For each face the face of the input, from 0.
unfoldable pub faces_by_face : Hierarchy → List ℕ
faces_by_face h = map (λ f. face_input h f - 1) (range_with_len 0 (face_count h))
