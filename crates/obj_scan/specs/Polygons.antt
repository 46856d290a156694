-- Polygons cut into triangles.
use Rattle.std.specs.Prelude.{ℕ, ◌+◌, ◌==◌, not, ◌&&◌, ◌||◌, Bool, List, [], ◌∷◌, ◌++◌, take, drop}
use Rattle.std.specs.Prelude.{length, slice_index_or, if◌then◌else◌}
use Rattle.std.specs.List.{list_all}
use Rattle.std.specs.Int.Signed.{lt_z}
use Rattle.pm_base.specs.declared.mesh.Corners.{Corners}
use Rattle.pm_base.specs.Place.{Place, origin}

-- A place comes before another by its x, then its y, then its z.
unfoldable pub is_place_before : Place → Place → Bool
is_place_before p q =
    lt_z p.x q.x || not (lt_z q.x p.x) && (lt_z p.y q.y || not (lt_z q.y p.y) && lt_z p.z q.z)

-- No corner's point comes before this one.
abbrev pub is_least : List Place → List ℕ → ℕ → Bool
is_least points corners v =
    list_all (λ c. not
    (is_place_before (slice_index_or points c origin) (slice_index_or points v origin))) corners

-- How many corners stand before the first of these whose point none comes before.
abbrev pub before_least : List Place → List ℕ → List ℕ → ℕ
before_least points corners [] = 0
before_least points corners (v ∷ vs) =
    if is_least points corners v then 0 else 1 + before_least points corners vs

-- The corners of a polygon, begun at its least one.
unfoldable pub begun_least : List Place → List ℕ → List ℕ
begun_least points corners =
    drop (before_least points corners corners) corners
    ++ take (before_least points corners corners) corners

-- The triangles of a corner and each two neighbours after it.
abbrev pub fan : ℕ → List ℕ → List Corners
fan a (b ∷ c ∷ more) = record { a = a; b = b; c = c } ∷ fan a (c ∷ more)
fan a _ = []

abbrev pub fan_of : List ℕ → List Corners
fan_of [] = []
fan_of (a ∷ more) = fan a more

-- The triangles of a polygon. One that is a triangle stays as it is written.
unfoldable pub triangles : List Place → List ℕ → List Corners
triangles points corners =
    if length corners == 3 then fan_of corners else fan_of (begun_least points corners)
