-- Points that are equal become one vertex. A unit is 10^-18.
use Rattle.std.specs.Prelude.{ℕ, ◌+◌, ◌==◌, Bool, ◌&&◌, List, [], ◌∷◌, ◌++◌, nat_lt, length}
use Rattle.std.specs.Prelude.{Result, Ok, if◌then◌else◌}
use Rattle.std.specs.Ordering.{int_eq}
use Rattle.pm_base.specs.declared.limits.TheConstants.{MOST_VERTICES}
use Rattle.pm_base.specs.declared.mesh.Corners.{Corners}
use Rattle.pm_base.specs.Place.{Place}
use Rattle.stl_read.specs.declared.fault.StlFault.TheVariants as faults
use Rattle.stl_read.specs.declared.fault.Refused.{Refused}
use Rattle.stl_read.specs.Refusals.{refused}

-- Points, no two the same, and the triangles of their numbers; and how many facets have attributes
-- that aren't 0.
pub record Triangles : Type 0 where
  pub points : List Place
  pub faces : List Corners
  pub attributes : ℕ

abbrev pub is_same : Place → Place → Bool
is_same p q = int_eq p.x q.x && int_eq p.y q.y && int_eq p.z q.z

-- The number of the first point that is the same, or how many points there are.
abbrev pub number_of : List Place → Place → ℕ
number_of [] p = 0
number_of (q ∷ qs) p = if is_same q p then 0 else 1 + number_of qs p

-- With a point, unless it is there.
abbrev pub with_point : List Place → Place → List Place
with_point points p =
    if nat_lt (number_of points p) (length points) then points else points ++ p ∷ []

-- A corner's vertex, and the points with it.
pub record Corner : Type 0 where
  pub vertex : ℕ
  pub points : List Place

-- A facet's vertices, and the points with them.
pub record Facet : Type 0 where
  pub corners : Corners
  pub points : List Place

abbrev pub no_triangles : Triangles
no_triangles = record { points = []; faces = []; attributes = 0 }

-- One more of them, where a facet has attributes.
abbrev pub marked_after : ℕ → Bool → ℕ
marked_after n marked = if marked then n + 1 else n

-- With a facet, which has attributes or not.
abbrev pub with_facet : Triangles → Facet → Bool → Triangles
with_facet t f marked = record {
  points = f.points;
  faces = t.faces ++ f.corners ∷ [];
  attributes = marked_after t.attributes marked;
}

-- A corner at a place of the file. There is room for so many points.
unfoldable pub corner_of : ℕ → List Place → Place → Result Corner Refused
corner_of place points p =
    if number_of points p == MOST_VERTICES then refused faults.TooManyVertices place
    else Ok (record { vertex = number_of points p; points = with_point points p })
