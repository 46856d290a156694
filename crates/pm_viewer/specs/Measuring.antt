-- How large a mesh is.
use Rattle.std.specs.Prelude.{ℕ, List, [], ◌∷◌, map}
use Rattle.std.specs.Int.{int_min, int_max}
use Rattle.std.specs.List.{range_with_len}
use Rattle.pm_base.specs.Place.{Place, origin}
use Rattle.pm_forest.specs.Forest.{Hierarchy, leaf_count}
use Rattle.pm_forest.specs.Meshes.{leaf_place}
use Rattle.pm_viewer.specs.declared.measuring.Coordinates.{Coordinates}
use Rattle.pm_viewer.specs.declared.measuring.Extent.{Extent}

abbrev pub coordinates_at : Place → Coordinates
coordinates_at p = record { x = p.x; y = p.y; z = p.z }

-- On each axis the lesser, and the greater, of a coordinate and that of a place.
abbrev pub lower : Coordinates → Place → Coordinates
lower c p = record { x = int_min c.x p.x; y = int_min c.y p.y; z = int_min c.z p.z }

abbrev pub upper : Coordinates → Place → Coordinates
upper c p = record { x = int_max c.x p.x; y = int_max c.y p.y; z = int_max c.z p.z }

-- The extent of one place alone.
abbrev pub extent_at : Place → Extent
extent_at p = record { low = coordinates_at p; high = coordinates_at p }

-- The least extent that has another and a place in it.
abbrev pub grown : Extent → Place → Extent
grown e p = record { low = lower e.low p; high = upper e.high p }

-- The least extent that has another and all these places in it.
unfoldable pub grown_by : Extent → List Place → Extent
grown_by e [] = e
grown_by e (p ∷ ps) = grown_by (grown e p) ps

-- On each axis the least and the greatest coordinate of some places; 0 and 0 where there is none.
unfoldable pub extent_of : List Place → Extent
extent_of [] = extent_at origin
extent_of (p ∷ ps) = grown_by (extent_at p) ps

-- The extent of the complete mesh.
abbrev pub mesh_extent : Hierarchy → Extent
mesh_extent h = extent_of (map (leaf_place h) (range_with_len 0 (leaf_count h)))
