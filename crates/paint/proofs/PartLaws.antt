-- The lines of arrays are those of nodes.
use Rattle.std.proofs.Common.{◌≡◌, ℕ, ℤ, List, refl, arith}
use Rattle.pm_forest.specs.Forest.{Hierarchy, node_count}
use Rattle.pm_paint.specs.Laws as means
use Rattle.pm_paint.specs.Means.{mean_array}
use Rattle.pm_fits.specs.Laws as fits
use Rattle.pm_fits.specs.Channels.{fit_array}
use Rattle.paint.specs.Texts.{lines_below, mean_line, fit_line}
use Rattle.paint.specs.Lines.{colour_line, texture_line}
use Rattle.paint.proofs.LineLaws.{lines_same}

pub colours_same : means.ChannelsStandTogether → (h : Hierarchy) (colours array : List ℕ)
    → array ≡ mean_array h 3 colours
    → lines_below (mean_line array) (node_count h)
    ≡ lines_below (colour_line h colours) (node_count h)
colours_same stand h colours array is =
    lines_same (mean_line array) (colour_line h colours) (node_count h)
    (λ v l. (let at = (stand h colours 3).1 in
    rw (is, at v 0 l (omega arith), at v 1 l (omega arith), at v 2 l (omega arith)) refl))

pub coordinates_same : fits.ChannelsStandTogether → (h : Hierarchy) (coordinates array : List ℤ)
    → array ≡ fit_array h 2 coordinates
    → lines_below (fit_line array) (node_count h)
    ≡ lines_below (texture_line h coordinates) (node_count h)
coordinates_same stand h coordinates array is =
    lines_same (fit_line array) (texture_line h coordinates) (node_count h)
    (λ v l. (let at = (stand h coordinates 2).1 in
    rw (is, at v 0 l (omega arith), at v 1 l (omega arith)) refl))
