-- The fan of a polygon from its first corner, and whether a triangle has an area.
use Rattle.std.specs.Prelude.{pos, Bool, not, List, [], ◌∷◌}
use Rattle.std.specs.Ordering.{int_eq}
use Rattle.pm_ears.specs.declared.spots.Spot.{Spot}
use Rattle.pm_ears.specs.declared.spots.Triangle.{Triangle}
use Rattle.pm_ears.specs.Areas.{twice_area_of}

-- The triangles of the first corner and each two that follow one another after it.
abbrev pub fan_from : Spot → List Spot → List Triangle
fan_from a (b ∷ c ∷ more) = record { a = a; b = b; c = c } ∷ fan_from a (c ∷ more)
fan_from a _ = []

abbrev pub fan : List Spot → List Triangle
fan [] = []
fan (a ∷ more) = fan_from a more

-- A triangle has an area other than 0.
abbrev pub has_area : Triangle → Bool
has_area t = not (int_eq (twice_area_of t) (pos 0))
