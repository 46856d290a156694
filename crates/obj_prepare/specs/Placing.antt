-- Where points come to stand on the grid.
use Rattle.std.specs.Prelude.{◌≡◌, ℕ, ◌≤◌, Bool, true, List, [], ◌∷◌, length, Option, None, Some}
use Rattle.std.specs.Prelude.{IfSome, if◌then◌else◌}
use Rattle.std.specs.List.{list_all}
use Rattle.pm_base.specs.declared.limits.TheConstants.{GREATEST_COORDINATE}
use Rattle.pm_base.specs.declared.mesh.Corners.{Corners}
use Rattle.pm_base.specs.Place.{Place, origin}
use Rattle.obj_prepare.specs.declared.extents.PointBox.{PointBox}
use Rattle.obj_prepare.specs.declared.placing.Fit.{Fit}
use Rattle.obj_prepare.specs.declared.placing.Fit.TheVariants as fits
use Rattle.obj_prepare.specs.Boxes.{box_of_points, scaled, IsInBox}
use Rattle.obj_prepare.specs.Whole.{stands_on_grid, whole_part_of}
use Rattle.obj_prepare.specs.Named.{named_in, chosen}

-- The box of points, if there are any.
abbrev pub frame_of : List Place → Option PointBox
frame_of [] = None
frame_of (p ∷ ps) = Some (box_of_points p ps)

-- How points are brought onto the grid: as they stand, where no size is given and all fit, and else
-- by their box. The size is the greatest coordinate where none is given.
abbrev pub fit_for : Option ℕ → List Place → Fit
fit_for size [] = fits.Standing
fit_for None (p ∷ ps) = if list_all stands_on_grid (p ∷ ps) then fits.Standing
    else fits.Scaled GREATEST_COORDINATE (box_of_points p ps)
fit_for (Some size) (p ∷ ps) = fits.Scaled size (box_of_points p ps)

-- A point that can be brought onto the grid so.
abbrev pub Suits : Fit → Place → Type 0
Suits fits.Standing p = stands_on_grid p ≡ true
Suits (fits.Scaled size frame) p = (size ≤ GREATEST_COORDINATE) × IsInBox frame p

-- The place of a point.
abbrev pub placed : Fit → Place → Place
placed fits.Standing p = record {
  x = whole_part_of p.x;
  y = whole_part_of p.y;
  z = whole_part_of p.z;
}
placed (fits.Scaled size frame) p = scaled size frame p

-- The place of each point whose flag is set. The others, of which nothing is asked, stand at 0.
abbrev pub places_by : Fit → List Bool → List Place → List Place
places_by fit (named ∷ flags) (p ∷ ps) =
    (if named then placed fit p else origin) ∷ places_by fit flags ps
places_by fit _ _ = []

-- The points that triangles name, brought onto the grid.
abbrev pub fit_of : Option ℕ → List Place → List Corners → Fit
fit_of size points faces = fit_for size (chosen (named_in faces (length points)) points)

abbrev pub prepared_places_of : Option ℕ → List Place → List Corners → List Place
prepared_places_of size points faces =
    places_by (fit_of size points faces) (named_in faces (length points)) points

-- Points are scaled to such a size, if at all.
abbrev pub IsSized : Fit → Type 0
IsSized fits.Standing = Unit {0}
IsSized (fits.Scaled size b) = (1 ≤ size) × (size ≤ GREATEST_COORDINATE)

-- A size is from 1 to the greatest coordinate.
abbrev pub IsSize : Option ℕ → Type 0
IsSize size = IfSome size (λ n. (1 ≤ n) × (n ≤ GREATEST_COORDINATE))
