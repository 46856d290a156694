-- The frame text: the mesh that a front shows, ascending by number.
use Rattle.std.specs.Prelude.{ℕ, ◌+◌, ◌*◌, List, ◌++◌, length, Bool, codes}
use Rattle.std.specs.List.{flat_map}
use Rattle.std.specs.Fmt.{decimal, signed_decimal}
use Rattle.pm_base.specs.Place.{Place}
use Rattle.pm_forest.specs.Forest.{Hierarchy}
use Rattle.pm_forest.specs.Fronts.{ancestor_of}
use Rattle.pm_forest.specs.Faces.{from_leaf}
use Rattle.pm_forest.specs.Places.{place_of_node}
use Rattle.pm_front.specs.Shown.{active_nodes, kept_faces}

-- `frame V F`
unfoldable pub head_line : ℕ → ℕ → List ℕ
head_line vertices faces =
    codes "frame " ++ decimal vertices ++ codes " " ++ decimal faces ++ codes "\n"

-- `v NODE X Y Z`
unfoldable pub node_line : ℕ → Place → List ℕ
node_line v p = codes "v " ++ decimal v ++ codes " " ++ signed_decimal p.x ++ codes " "
    ++ signed_decimal p.y ++ codes " " ++ signed_decimal p.z ++ codes "\n"

-- `f FACE A B C`
unfoldable pub shown_face_line : ℕ → ℕ → ℕ → ℕ → List ℕ
shown_face_line f a b c =
    codes "f " ++ decimal f ++ codes " " ++ decimal a ++ codes " " ++ decimal b ++ codes " "
    ++ decimal c ++ codes "\n"

unfoldable pub end_line : List ℕ
end_line = codes "end\n"

-- An active node at its place.
abbrev pub shown_node : Hierarchy → ℕ → List ℕ
shown_node h v = node_line v (place_of_node h v)

-- A kept face, with the ancestors of its corners in the face's corner order.
abbrev pub shown_face : Hierarchy → (ℕ → Bool) → ℕ → List ℕ
shown_face h T f =
    shown_face_line f (ancestor_of h T (from_leaf h (3 * f)))
    (ancestor_of h T (from_leaf h (3 * f + 1))) (ancestor_of h T (from_leaf h (3 * f + 2)))

-- The first line, with how many nodes are active and how many faces are kept.
abbrev pub first_line : Hierarchy → (ℕ → Bool) → List ℕ
first_line h T = head_line (length (active_nodes h T)) (length (kept_faces h T))

abbrev pub node_lines : Hierarchy → (ℕ → Bool) → List ℕ
node_lines h T = flat_map (shown_node h) (active_nodes h T)

abbrev pub face_lines : Hierarchy → (ℕ → Bool) → List ℕ
face_lines h T = flat_map (shown_face h T) (kept_faces h T)

-- What a front of a hierarchy shows, where T has the split records.
unfoldable pub frame_text : Hierarchy → (ℕ → Bool) → List ℕ
frame_text h T = first_line h T ++ node_lines h T ++ face_lines h T ++ end_line
