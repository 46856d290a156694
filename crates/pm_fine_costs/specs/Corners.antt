-- The corners of a surface and the normals of their faces.
use Rattle.std.specs.Prelude.{ℕ, ◌==◌, ◌&&◌, List}
use Rattle.std.specs.List.{filter}
use Rattle.pm_base.specs.Counts.{numbers_below}
use Rattle.pm_base.specs.Geometry.{Direction, cross_of}
use Rattle.pm_base.specs.Sides.{side_count, stands, to, third}
use Rattle.pm_runs.specs.Surfaces.{Surface, place_at, net_of_surface}

-- The normal of the face of a side.
abbrev pub normal_at : Surface → ℕ → Direction
normal_at s e =
    let m = net_of_surface s in
    cross_of (place_at s (m.from e)) (place_at s (to m e)) (place_at s (third m e))

-- The corners at a vertex, in faces that are there.
abbrev pub corners_round : Surface → ℕ → List ℕ
corners_round s v =
    let m = net_of_surface s in
    filter (λ e. stands m e && (m.from e == v)) (numbers_below (side_count m))
