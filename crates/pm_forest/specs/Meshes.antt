-- The meshes of a hierarchy: the one of its leaves, and the same with the numbers of the input
-- (Hoppe 1996).
use Rattle.std.specs.Prelude.{◌≡◌, ℕ, ◌+◌, ◌-◌, ◌<◌, ◌≤◌, ◌==◌, List, map, length, slice_index_or}
use Rattle.std.specs.List.{range_with_len}
use Rattle.std.specs.Option.{unwrap_or}
use Rattle.pm_base.specs.Place.{Place, origin}
use Rattle.pm_base.specs.Sides.{find_below, no_corners}
use Rattle.pm_base.specs.Meshes.{Mesh}
use Rattle.pm_base.specs.declared.mesh.Corners.{Corners}
use Rattle.pm_forest.specs.declared.parts.Face.{Face}
use Rattle.pm_forest.specs.Forest.{Hierarchy, leaf_count}
use Rattle.pm_forest.specs.Faces.{faces_of, face_count, corners_of}
use Rattle.pm_forest.specs.Places.{place_of_node}
use Rattle.pm_forest.specs.Rules.{node_inputs, HasShape}
use Rattle.pm_forest.specs.Tables.{leaf_node_of}

-- The place of leaf x.
abbrev pub leaf_place : Hierarchy → ℕ → Place
leaf_place h x = place_of_node h (leaf_node_of h x)

-- The numbers of node v and of leaf x among the input's vertices, from 1.
unfoldable pub input_of_node : Hierarchy → ℕ → ℕ
input_of_node h v = slice_index_or (node_inputs h) v 0

abbrev pub leaf_input : Hierarchy → ℕ → ℕ
leaf_input h x = input_of_node h (leaf_node_of h x)

-- The input vertex of each leaf, from 0.
abbrev pub AreInputVertices : Hierarchy → List ℕ → Type 0
AreInputVertices h vertices =
    vertices ≡ map (λ x. leaf_input h x - 1) (range_with_len 0 (leaf_count h))

-- The number of face f among the input's faces, from 1.
abbrev pub face_input : Hierarchy → ℕ → ℕ
face_input h f = (corners_of h f).input

-- A face's corners, by leaves, and by the vertices of the input from 0.
abbrev pub leaf_corners : Face → Corners
leaf_corners f = record { a = f.a; b = f.b; c = f.c }

abbrev pub input_corners : Hierarchy → Face → Corners
input_corners h f = record {
  a = leaf_input h f.a - 1;
  b = leaf_input h f.b - 1;
  c = leaf_input h f.c - 1;
}

-- The leaf mesh: the places of the leaves, and all faces by number.
unfoldable pub leaf_mesh_of : Hierarchy → Mesh
leaf_mesh_of h = record {
  points = map (leaf_place h) (range_with_len 0 (leaf_count h));
  faces = map leaf_corners (faces_of h);
}

-- The leaf and the face with the input number i + 1.
abbrev pub leaf_of_input : Hierarchy → ℕ → ℕ
leaf_of_input h i = unwrap_or (find_below (λ x. leaf_input h x == i + 1) (leaf_count h)) 0

abbrev pub face_of_input : Hierarchy → ℕ → ℕ
face_of_input h i = unwrap_or (find_below (λ f. face_input h f == i + 1) (face_count h)) 0

-- The place of input vertex i, and the corners of input face i.
abbrev pub input_place : Hierarchy → ℕ → Place
input_place h i = leaf_place h (leaf_of_input h i)

abbrev pub input_face : Hierarchy → ℕ → Corners
input_face h i = input_corners h (corners_of h (face_of_input h i))

-- The input mesh: vertices and faces in the order of their input numbers.
unfoldable pub input_mesh_of : Hierarchy → Mesh
input_mesh_of h = record {
  points = map (input_place h) (range_with_len 0 (leaf_count h));
  faces = map (input_face h) (range_with_len 0 (face_count h));
}

-- Each number from 1 to n is that of one of n things, and of no other.
pub record NumbersEach (number : ℕ → ℕ) (n : ℕ) : Type 0 where
  pub some : (x : ℕ) → x < n → 0 < number x
  pub most : (x : ℕ) → x < n → number x ≤ n
  pub once : (x y : ℕ) → x < n → y < n → number x ≡ number y → x ≡ y
  pub each : (i : ℕ) → i < n → (x : ℕ) × (x < n) × (number x ≡ i + 1)

-- A mesh of the hierarchy's leaves and faces, each at its input number.
pub record IsInputMesh (h : Hierarchy) (m : Mesh) : Type 0 where
  pub points : length m.points ≡ leaf_count h
  pub faces : length m.faces ≡ face_count h
  pub vertex : (x : ℕ) → x < leaf_count h → slice_index_or m.points (leaf_input h x - 1) origin
      ≡ leaf_place h x
  pub face : (f : ℕ) → f < face_count h → slice_index_or m.faces (face_input h f - 1) no_corners
      ≡ input_corners h (corners_of h f)

-- The input numbers of leaves and of faces leave none out, and the input mesh has each leaf and
-- face at its own.
pub record HasInputNumbers (h : Hierarchy) : Type 0 where
  pub leaves : NumbersEach (leaf_input h) (leaf_count h)
  pub faces : NumbersEach (face_input h) (face_count h)
  pub mesh : IsInputMesh h (input_mesh_of h)

abbrev pub InputMeshesFollowNumbers : Type 0
InputMeshesFollowNumbers = (h : Hierarchy) → HasShape h → HasInputNumbers h
