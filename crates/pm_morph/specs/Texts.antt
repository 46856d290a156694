-- The text of a geomorph: the frame of a front, with each node on its way from its elder in the
-- marked front.
use Rattle.std.specs.Prelude.{ℕ, Bool, List, ◌++◌, length, codes}
use Rattle.std.specs.List.{flat_map}
use Rattle.std.specs.Fmt.{decimal}
use Rattle.pm_forest.specs.Forest.{Hierarchy}
use Rattle.pm_front.specs.Shown.{active_nodes, kept_faces}
use Rattle.pm_frame.specs.Frame.{node_line, face_lines, end_line}
use Rattle.pm_morph.specs.Interpolation.{morph_place_at}

-- `morph V F A B`
unfoldable pub morph_line : ℕ → ℕ → ℕ → ℕ → List ℕ
morph_line vertices faces a b =
    codes "morph " ++ decimal vertices ++ codes " " ++ decimal faces ++ codes " " ++ decimal a
    ++ codes " " ++ decimal b ++ codes "\n"

abbrev pub first_morph_line : Hierarchy → (ℕ → Bool) → ℕ → ℕ → List ℕ
first_morph_line h S a b = morph_line (length (active_nodes h S)) (length (kept_faces h S)) a b

-- An active node at a/b of its way.
abbrev pub moved_node : Hierarchy → (ℕ → Bool) → ℕ → ℕ → ℕ → List ℕ
moved_node h T a b v = node_line v (morph_place_at h T a b v)

abbrev pub moved_lines : Hierarchy → (ℕ → Bool) → (ℕ → Bool) → ℕ → ℕ → List ℕ
moved_lines h T S a b = flat_map (moved_node h T a b) (active_nodes h S)

-- The text at a/b of the way from the marked front T to the front S. The faces are those of the
-- frame of S.
unfoldable pub morph_text : Hierarchy → (ℕ → Bool) → (ℕ → Bool) → ℕ → ℕ → List ℕ
morph_text h T S a b =
    first_morph_line h S a b ++ moved_lines h T S a b ++ face_lines h S ++ end_line
