-- Sets of numbers while they are filled, and when they are.
use Rattle.std.specs.Prelude.{◌≡◌, ℕ, ◌+◌, ◌*◌, ◌<◌, Bool, true, List, length, Some, ◌⊎◌, filter}
use Rattle.std.specs.Prelude.{◌||◌}
use Rattle.pm_base.specs.Counts.{set_of, numbers_below}
use Rattle.pm_links.specs.Lists.{has}
use Rattle.pm_sets.specs.Sets.{IsEmptySet}
use Rattle.pm_forest.specs.Forest.{Hierarchy, node_count, s_of, Makes}
use Rattle.pm_forest.specs.Fronts.{IsFront}
use Rattle.pm_forest.specs.Faces.{face_count, revealed_by}
use Rattle.pm_change.specs.Changes.{is_gone_face, is_gone_node, is_new_node, is_put}
use Rattle.pm_change.specs.declared.sets.ChangeSets.{ChangeSets}

-- The numbers of a set, ascending, and how many they are.
abbrev pub numbers_in : List Bool → List ℕ
numbers_in flags = filter (set_of flags) (numbers_below (length flags))

abbrev pub size_of : List Bool → ℕ
size_of flags = length (numbers_in flags)

abbrev pub sizes_of : ChangeSets → ℕ
sizes_of s =
    size_of s.gone_faces + size_of s.gone_nodes + size_of s.new_nodes + size_of s.put_faces

-- Numbers came to a set, and each of them passes a test.
pub record Gathers (passes : ℕ → Bool) (old new : List Bool) : Type 0 where
  pub len : length new ≡ length old
  pub stay : (i : ℕ) → set_of old i ≡ true → set_of new i ≡ true
  pub right : (i : ℕ) → set_of new i ≡ true → (set_of old i ≡ true) ⊎ (passes i ≡ true)

-- The set has just the numbers below n that pass.
pub record AreJust (passes : ℕ → Bool) (n : ℕ) (flags : List Bool) : Type 0 where
  pub len : length flags ≡ n
  pub each : (i : ℕ) → i < n → set_of flags i ≡ passes i

-- The set has just the nodes that are active in a front, and weren't in an earlier one.
pub record AreNewSince (h : Hierarchy) (S G : ℕ → Bool) (new : List Bool) : Type 0 where
  pub before : IsFront h S
  pub just : AreJust (is_new_node h S G) (node_count h) new

-- The node that record k splits and its children are in the set, if they pass.
abbrev pub HasNodesOf : Hierarchy → (ℕ → Bool) → ℕ → List Bool → Type 0
HasNodesOf h passes k flags =
    (v : ℕ) → (v ≡ s_of h k) ⊎ Makes h k v → passes v ≡ true → set_of flags v ≡ true

-- The faces that record k reveals are in the set, if they pass.
abbrev pub HasFacesOf : Hierarchy → (ℕ → Bool) → ℕ → List Bool → Type 0
HasFacesOf h passes k flags =
    (f : ℕ) → f < face_count h → revealed_by h f ≡ Some k → passes f ≡ true
    → set_of flags f ≡ true

-- A corner of the face is in the list.
abbrev pub is_face_in : List ℕ → ℕ → Bool
is_face_in l f = has l (3 * f) || (has l (3 * f + 1) || has l (3 * f + 2))

-- The sets have room for the faces and the nodes of a hierarchy,
pub record HaveRoomFor (h : Hierarchy) (s : ChangeSets) : Type 0 where
  pub gone_faces : length s.gone_faces ≡ face_count h
  pub gone_nodes : length s.gone_nodes ≡ node_count h
  pub new_nodes : length s.new_nodes ≡ node_count h
  pub put_faces : length s.put_faces ≡ face_count h

-- are empty,
pub record AreEmptySets (s : ChangeSets) : Type 0 where
  pub gone_faces : IsEmptySet s.gone_faces
  pub gone_nodes : IsEmptySet s.gone_nodes
  pub new_nodes : IsEmptySet s.new_nodes
  pub put_faces : IsEmptySet s.put_faces

-- have seen a record that differs,
pub record HaveSeen (h : Hierarchy) (S G : ℕ → Bool) (k : ℕ) (s : ChangeSets) : Type 0 where
  pub gone_faces : HasFacesOf h (is_gone_face h S G) k s.gone_faces
  pub gone_nodes : HasNodesOf h (is_gone_node h S G) k s.gone_nodes
  pub new_nodes : HasNodesOf h (is_new_node h S G) k s.new_nodes

-- have gathered some of what is gone or new,
pub record HaveGathered (h : Hierarchy) (S G : ℕ → Bool) (old new : ChangeSets) : Type 0 where
  pub gone_faces : Gathers (is_gone_face h S G) old.gone_faces new.gone_faces
  pub gone_nodes : Gathers (is_gone_node h S G) old.gone_nodes new.gone_nodes
  pub new_nodes : Gathers (is_new_node h S G) old.new_nodes new.new_nodes
  pub put_faces : new.put_faces ≡ old.put_faces

-- or have just the numbers of the change.
pub record AreSetsOf (h : Hierarchy) (S G : ℕ → Bool) (s : ChangeSets) : Type 0 where
  pub gone_faces : AreJust (is_gone_face h S G) (face_count h) s.gone_faces
  pub gone_nodes : AreJust (is_gone_node h S G) (node_count h) s.gone_nodes
  pub new_nodes : AreJust (is_new_node h S G) (node_count h) s.new_nodes
  pub put_faces : AreJust (is_put h S G) (face_count h) s.put_faces

-- Between two changes they are empty, with the same room for gone and for new ones.
pub record AreReady (s : ChangeSets) : Type 0 where
  pub empty : AreEmptySets s
  pub faces : length s.gone_faces ≡ length s.put_faces
  pub nodes : length s.gone_nodes ≡ length s.new_nodes
