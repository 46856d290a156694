-- The planes at a corner by places alone, as they are computed.
use Rattle.std.specs.Prelude.{ℕ, Bool, cond, is_none, Option, Some, None, option_map, List, []}
use Rattle.std.specs.Prelude.{◌∷◌, ◌++◌}
use Rattle.pm_base.specs.Place.{Place}
use Rattle.pm_base.specs.Geometry.{Direction, cross_of}
use Rattle.pm_base.specs.Sides.{prev, to, third, twin_of}
use Rattle.pm_quadric.specs.Planes.{Plane, plane_through}
use Rattle.pm_runs.specs.Surfaces.{Surface, place_at, net_of_surface}
use Rattle.pm_fine.specs.Normals.{area_normal_of, border_normal_of}
use Rattle.pm_fine_costs.specs.declared.corner.Corner.{Corner}
use Rattle.pm_fine_costs.specs.declared.corner.CornerNormals.{CornerNormals}

-- The corner of a surface that has the number of a side.
abbrev pub corner_of : Surface → ℕ → Corner
corner_of s e =
    let m = net_of_surface s in
    record {
      at = place_at s (m.from e);
      next = place_at s (to m e);
      last = place_at s (third m e);
      is_open_after = is_none (twin_of m e);
      is_open_before = is_none (twin_of m (prev e));
    }

-- The normal of the plane on the side from a to b of a face whose third corner is c, where the side
-- is open.
abbrev pub open_normal : Place → Place → Place → Bool → Option Direction
open_normal a b c is_open = cond is_open (Some (border_normal_of a b (cross_of a b c))) None

abbrev pub normals_of : Corner → CornerNormals
normals_of k = record {
  face = area_normal_of (cross_of k.at k.next k.last);
  after = open_normal k.at k.next k.last k.is_open_after;
  before = open_normal k.last k.at k.next k.is_open_before;
}

abbrev pub weighed : (Direction → Direction) → CornerNormals → CornerNormals
weighed weigh n = record {
  face = weigh n.face;
  after = option_map weigh n.after;
  before = option_map weigh n.before;
}

abbrev pub some_plane : Option Direction → Place → List Plane
some_plane None p = []
some_plane (Some n) p = plane_through n p ∷ []

-- The planes with these normals through a place.
abbrev pub planes_with : CornerNormals → Place → List Plane
planes_with n p = plane_through n.face p ∷ some_plane n.after p ++ some_plane n.before p
