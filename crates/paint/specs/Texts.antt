-- The lines of nodes and faces, by arrays of what they have.
use Rattle.std.specs.Prelude.{ℕ, zero, suc, ◌+◌, ◌-◌, ◌*◌, ℤ, pos, List, [], ◌++◌, slice_index_or}
use Rattle.std.specs.Prelude.{codes}
use Rattle.std.specs.Fmt.{decimal, signed_decimal}
use Rattle.pm_forest.specs.Forest.{Hierarchy}
use Rattle.pm_forest.specs.Meshes.{face_input}

-- The lines of 0, 1 and so on below n.
unfoldable pub lines_below : (ℕ → List ℕ) → ℕ → List ℕ
lines_below line zero = []
lines_below line (suc n) = lines_below line n ++ line n

-- `c NODE R G B`
unfoldable pub colour_text : ℕ → ℕ → ℕ → ℕ → List ℕ
colour_text v r g b =
    codes "c " ++ decimal v ++ codes " " ++ decimal r ++ codes " " ++ decimal g ++ codes " "
    ++ decimal b ++ codes "\n"

-- `t NODE U V`
unfoldable pub texture_text : ℕ → ℤ → ℤ → List ℕ
texture_text n u v =
    codes "t " ++ decimal n ++ codes " " ++ signed_decimal u ++ codes " " ++ signed_decimal v
    ++ codes "\n"

-- `p FACE PAGE`
unfoldable pub page_text : ℕ → ℕ → List ℕ
page_text f page = codes "p " ++ decimal f ++ codes " " ++ decimal page ++ codes "\n"

-- The lines of node v, where three means of each node stand together, and where two fits do.
abbrev pub mean_line : List ℕ → ℕ → List ℕ
mean_line means v =
    colour_text v (slice_index_or means (v * 3 + 0) 0) (slice_index_or means (v * 3 + 1) 0)
    (slice_index_or means (v * 3 + 2) 0)

abbrev pub fit_line : List ℤ → ℕ → List ℕ
fit_line fits v =
    texture_text v (slice_index_or fits (v * 2 + 0) (pos 0))
    (slice_index_or fits (v * 2 + 1) (pos 0))

-- The line of face f, which has the page of its face of the input.
abbrev pub page_line : Hierarchy → List ℕ → ℕ → List ℕ
page_line h pages f = page_text f (slice_index_or pages (face_input h f - 1) 0)
