-- The lines that are written of a coat: what each node has out of what the input's vertices have,
-- and which page each face has.
use Rattle.std.specs.Prelude.{◌≡◌, ℕ, ℤ, if◌then◌else◌, List, [], ◌++◌}
use Rattle.pm_forest.specs.Forest.{Hierarchy, node_count, leaf_count}
use Rattle.pm_forest.specs.Faces.{face_count}
use Rattle.pm_paint.specs.Means.{mean_of, channel_of}
use Rattle.pm_fits.specs.Channels as fits
use Rattle.pm_fits.specs.Fits.{fit_at}
use Rattle.paint.specs.declared.sizes.Sizes.{Sizes}
use Rattle.paint.specs.Coat.{Coat, has_colours, has_coordinates, has_pages}
use Rattle.paint.specs.Texts.{lines_below, colour_text, texture_text, page_line}

-- The sizes are those of a coat for this hierarchy.
abbrev pub IsFor : Hierarchy → Sizes → Type 0
IsFor h s = (s.vertices ≡ leaf_count h) × (s.faces ≡ face_count h)

-- The rounded mean of what the leaves under node v have in channel j of three, where each vertex of
-- the input has three numbers.
abbrev pub mean_in : Hierarchy → List ℕ → ℕ → ℕ → ℕ
mean_in h colours j v = mean_of h (channel_of colours 3 j (leaf_count h)) v

-- What node v has in channel j of two, where each vertex of the input has two numbers: the fit to
-- its leaves at its place.
abbrev pub fit_in : Hierarchy → List ℤ → ℕ → ℕ → ℤ
fit_in h coordinates j v = fit_at h (fits.channel_of coordinates 2 j (leaf_count h)) v

-- The lines of node v.
abbrev pub colour_line : Hierarchy → List ℕ → ℕ → List ℕ
colour_line h colours v =
    colour_text v (mean_in h colours 0 v) (mean_in h colours 1 v) (mean_in h colours 2 v)

abbrev pub texture_line : Hierarchy → List ℤ → ℕ → List ℕ
texture_line h coordinates v =
    texture_text v (fit_in h coordinates 0 v) (fit_in h coordinates 1 v)

-- The lines of each part that is there.
unfoldable pub colour_lines : Hierarchy → Coat → List ℕ
colour_lines h coat =
    if has_colours coat.sizes then lines_below (colour_line h coat.colours) (node_count h) else []

unfoldable pub texture_lines : Hierarchy → Coat → List ℕ
texture_lines h coat =
    if has_coordinates coat.sizes
    then lines_below (texture_line h coat.coordinates) (node_count h)
    else []

unfoldable pub page_lines : Hierarchy → Coat → List ℕ
page_lines h coat =
    if has_pages coat.sizes then lines_below (page_line h coat.pages) (face_count h) else []

-- The lines of a coat.
unfoldable pub lines_of : Hierarchy → Coat → List ℕ
lines_of h coat = colour_lines h coat ++ texture_lines h coat ++ page_lines h coat
