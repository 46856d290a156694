-- The text of a change, and the frame text of a mesh that a viewer has.
use Rattle.std.specs.Prelude.{ℕ, Bool, List, ◌++◌, length, filter, codes}
use Rattle.std.specs.List.{flat_map}
use Rattle.std.specs.Fmt.{decimal}
use Rattle.pm_base.specs.Counts.{numbers_below}
use Rattle.pm_forest.specs.Forest.{Hierarchy, node_count}
use Rattle.pm_forest.specs.Faces.{face_count}
use Rattle.pm_front.specs.Shown.{active_nodes, kept_faces}
use Rattle.pm_frame.specs.Frame.{head_line, node_line, shown_face_line, shown_node, shown_face}
use Rattle.pm_frame.specs.Frame.{end_line}
use Rattle.pm_morph.specs.Laws.{ShownFace}
use Rattle.pm_change.specs.Shown.{ShownNode}
use Rattle.pm_change.specs.Changes.{Change, gone_faces, gone_nodes, is_new_node, is_put}
use Rattle.pm_change.specs.Applying.{Mesh}

-- `change V F`
unfoldable pub change_line : ℕ → ℕ → List ℕ
change_line vertices faces = codes "change " ++ decimal vertices ++ codes " " ++ decimal faces ++
    codes "\n"

-- `-f FACE`
unfoldable pub gone_face_line : ℕ → List ℕ
gone_face_line f = codes "-f " ++ decimal f ++ codes "\n"

-- `-v NODE`
unfoldable pub gone_node_line : ℕ → List ℕ
gone_node_line v = codes "-v " ++ decimal v ++ codes "\n"

abbrev pub line_of_node : ShownNode → List ℕ
line_of_node v = node_line v.number v.place

abbrev pub line_of_face : ShownFace → List ℕ
line_of_face f = shown_face_line f.number f.a f.b f.c

-- The first line tells how many nodes and faces there are after the change.
abbrev pub first_change_line : Hierarchy → (ℕ → Bool) → List ℕ
first_change_line h G = change_line (length (active_nodes h G)) (length (kept_faces h G))

abbrev pub gone_face_lines : Hierarchy → (ℕ → Bool) → (ℕ → Bool) → List ℕ
gone_face_lines h S G = flat_map gone_face_line (gone_faces h S G)

abbrev pub gone_node_lines : Hierarchy → (ℕ → Bool) → (ℕ → Bool) → List ℕ
gone_node_lines h S G = flat_map gone_node_line (gone_nodes h S G)

abbrev pub new_node_lines : Hierarchy → (ℕ → Bool) → (ℕ → Bool) → List ℕ
new_node_lines h S G =
    flat_map (shown_node h) (filter (is_new_node h S G) (numbers_below (node_count h)))

abbrev pub put_face_lines : Hierarchy → (ℕ → Bool) → (ℕ → Bool) → List ℕ
put_face_lines h S G =
    flat_map (shown_face h G) (filter (is_put h S G) (numbers_below (face_count h)))

-- The text of the change from the front of S to that of G.
unfoldable pub change_text : Hierarchy → (ℕ → Bool) → (ℕ → Bool) → List ℕ
change_text h S G =
    first_change_line h G ++ gone_face_lines h S G ++ gone_node_lines h S G ++ new_node_lines h S G
    ++ put_face_lines h S G ++ end_line

-- The lines of a change.
abbrev pub text_of_change : ℕ → ℕ → Change → List ℕ
text_of_change vertices faces c =
    change_line vertices faces ++ flat_map gone_face_line c.gone_faces
    ++ flat_map gone_node_line c.gone_nodes ++ flat_map line_of_node c.new_nodes
    ++ flat_map line_of_face c.put_faces ++ end_line

-- The frame text of a mesh.
abbrev pub text_of : Mesh → List ℕ
text_of m =
    head_line (length m.nodes) (length m.faces) ++ flat_map line_of_node m.nodes
    ++ flat_map line_of_face m.faces ++ end_line
