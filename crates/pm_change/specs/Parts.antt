-- The parts of a change: the numbers of each, and their lines.
use Rattle.std.specs.Prelude.{◌≡◌, ℕ, ◌<◌, Bool, true, List, ◌++◌, length}
use Rattle.std.specs.List.{flat_map}
use Rattle.pm_base.specs.Counts.{set_of}
use Rattle.pm_forest.specs.Forest.{Hierarchy, node_count}
use Rattle.pm_forest.specs.Faces.{face_count}
use Rattle.pm_forest.specs.Kept.{is_kept}
use Rattle.pm_frame.specs.Frame.{shown_node, shown_face, end_line}
use Rattle.pm_change.specs.declared.parts.Part.{Part}
use Rattle.pm_change.specs.declared.parts.Part.TheVariants as parts
use Rattle.pm_change.specs.Changes.{is_gone_face, is_gone_node, is_new_node, is_put}
use Rattle.pm_change.specs.Texts.{first_change_line, gone_face_line, gone_node_line}
use Rattle.pm_change.specs.Gathering.{numbers_in}
use Rattle.pm_change.specs.declared.sets.ChangeSets.{ChangeSets}

-- Which numbers belong to a part, and below which number they are.
abbrev pub is_of_part : Hierarchy → (ℕ → Bool) → (ℕ → Bool) → Part → ℕ → Bool
is_of_part h S G parts.GoneFaces = is_gone_face h S G
is_of_part h S G parts.GoneNodes = is_gone_node h S G
is_of_part h S G parts.NewNodes = is_new_node h S G
is_of_part h S G parts.PutFaces = is_put h S G

abbrev pub bound_of_part : Hierarchy → Part → ℕ
bound_of_part h parts.GoneFaces = face_count h
bound_of_part h parts.GoneNodes = node_count h
bound_of_part h parts.NewNodes = node_count h
bound_of_part h parts.PutFaces = face_count h

-- The line of a number.
abbrev pub part_line : Hierarchy → (ℕ → Bool) → Part → ℕ → List ℕ
part_line h G parts.GoneFaces = gone_face_line
part_line h G parts.GoneNodes = gone_node_line
part_line h G parts.NewNodes = shown_node h
part_line h G parts.PutFaces = shown_face h G

-- What is gone is told by its number alone; a node has to be there, and a face has to be kept.
abbrev pub CanTell : Hierarchy → (ℕ → Bool) → Part → ℕ → Type 0
CanTell h G parts.GoneFaces f = Unit {0}
CanTell h G parts.GoneNodes v = Unit {0}
CanTell h G parts.NewNodes v = v < node_count h
CanTell h G parts.PutFaces f = (f < face_count h) × (is_kept h G f ≡ true)

-- The lines of the numbers of a set.
abbrev pub lines_in : Hierarchy → (ℕ → Bool) → Part → List Bool → List ℕ
lines_in h G part flags = flat_map (part_line h G part) (numbers_in flags)

-- Each of them is below the bound, and can be told.
pub record CanTellAll (h : Hierarchy) (G : ℕ → Bool) (part : Part) (flags : List Bool) :
    Type 0 where
  pub len : length flags ≡ bound_of_part h part
  pub each : (n : ℕ) → set_of flags n ≡ true → CanTell h G part n

-- Those of all four sets, and the text of their lines.
pub record CanTellSets (h : Hierarchy) (G : ℕ → Bool) (s : ChangeSets) : Type 0 where
  pub gone_faces : CanTellAll h G parts.GoneFaces s.gone_faces
  pub gone_nodes : CanTellAll h G parts.GoneNodes s.gone_nodes
  pub new_nodes : CanTellAll h G parts.NewNodes s.new_nodes
  pub put_faces : CanTellAll h G parts.PutFaces s.put_faces

unfoldable pub text_in : Hierarchy → (ℕ → Bool) → ChangeSets → List ℕ
text_in h G s =
    first_change_line h G ++ lines_in h G parts.GoneFaces s.gone_faces
    ++ lines_in h G parts.GoneNodes s.gone_nodes ++ lines_in h G parts.NewNodes s.new_nodes
    ++ lines_in h G parts.PutFaces s.put_faces ++ end_line
