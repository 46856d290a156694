-- A change as arrays of numbers.
use Rattle.std.specs.Prelude.{◌≡◌, ℕ, ℤ, ◌*◌, ◌≤◌, List, [], ◌∷◌, length, map, take, drop}
use Rattle.std.specs.List.{flat_map}
use Rattle.pm_morph.specs.Laws.{ShownFace}
use Rattle.pm_change.specs.Shown.{ShownNode, node_number, face_number}
use Rattle.pm_change.specs.Changes.{Change}
use Rattle.pm_change.specs.declared.fitting.ChangeSizes.{ChangeSizes}

-- The three coordinates of a node, and the three nodes at the corners of a face.
abbrev pub coordinates : ShownNode → List ℤ
coordinates v = v.place.x ∷ v.place.y ∷ v.place.z ∷ []

abbrev pub corner_nodes : ShownFace → List ℕ
corner_nodes f = f.a ∷ f.b ∷ f.c ∷ []

-- How many entries each list of a change has.
abbrev pub sizes_of_change : Change → ChangeSizes
sizes_of_change c = record {
  gone_faces = length c.gone_faces;
  gone_nodes = length c.gone_nodes;
  new_nodes = length c.new_nodes;
  put_faces = length c.put_faces;
}

-- A change of these sizes fits into arrays of these lengths: a number for each entry, and three for
-- each place and for the corners of each face.
pub record ChangeFits (s : ChangeSizes)
    (gone_faces gone_nodes new_nodes new_places put_faces put_corners : ℕ) : Type 0 where
  pub gone_faces_fit : s.gone_faces ≤ gone_faces
  pub gone_nodes_fit : s.gone_nodes ≤ gone_nodes
  pub new_nodes_fit : s.new_nodes ≤ new_nodes
  pub new_places_fit : 3 * s.new_nodes ≤ new_places
  pub put_faces_fit : s.put_faces ≤ put_faces
  pub put_corners_fit : 3 * s.put_faces ≤ put_corners

-- Arrays begin with a change.
pub record BeginWith (c : Change) (gone_faces gone_nodes new_nodes : List ℕ)
    (new_places : List ℤ) (put_faces put_corners : List ℕ) : Type 0 where
  pub gone_faces_are : take (length c.gone_faces) gone_faces ≡ c.gone_faces
  pub gone_nodes_are : take (length c.gone_nodes) gone_nodes ≡ c.gone_nodes
  pub new_nodes_are : take (length c.new_nodes) new_nodes ≡ map node_number c.new_nodes
  pub new_places_are : take (3 * length c.new_nodes) new_places ≡ flat_map coordinates c.new_nodes
  pub put_faces_are : take (length c.put_faces) put_faces ≡ map face_number c.put_faces
  pub put_corners_are : take (3 * length c.put_faces) put_corners ≡ flat_map corner_nodes
      c.put_faces

-- Behind a change, arrays are as they were.
pub record LeavesBehind (c : Change) (gone_faces gone_nodes new_nodes : List ℕ)
    (new_places : List ℤ) (put_faces put_corners : List ℕ)
    (gone_faces_now gone_nodes_now new_nodes_now : List ℕ)
    (new_places_now : List ℤ) (put_faces_now put_corners_now : List ℕ) : Type 0 where
  pub gone_faces_stay : drop (length c.gone_faces) gone_faces_now
      ≡ drop (length c.gone_faces) gone_faces
  pub gone_nodes_stay : drop (length c.gone_nodes) gone_nodes_now
      ≡ drop (length c.gone_nodes) gone_nodes
  pub new_nodes_stay : drop (length c.new_nodes) new_nodes_now ≡ drop (length c.new_nodes) new_nodes
  pub new_places_stay : drop (3 * length c.new_nodes) new_places_now
      ≡ drop (3 * length c.new_nodes) new_places
  pub put_faces_stay : drop (length c.put_faces) put_faces_now ≡ drop (length c.put_faces) put_faces
  pub put_corners_stay : drop (3 * length c.put_faces) put_corners_now
      ≡ drop (3 * length c.put_faces) put_corners
