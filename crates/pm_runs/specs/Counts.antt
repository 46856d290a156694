-- What is counted along a run: live vertices, and the planes that they stand for.
use Rattle.std.specs.Prelude.{◌≢◌, ℕ, zero, suc, ◌+◌, cond, is_some, List, length}
use Rattle.std.specs.List.{count_by, All}
use Rattle.pm_base.specs.declared.log.Collapse.{Collapse}
use Rattle.pm_quadric.specs.Planes.{Plane}
use Rattle.pm_runs.specs.Surfaces.{Surface, next_vertex, is_live}

-- How many vertices are live.
abbrev pub live_count_of : Surface → ℕ
live_count_of s = count_by is_some s.places

-- The sum over the numbers below n.
abbrev pub sum_below : (ℕ → ℕ) → ℕ → ℕ
sum_below f zero = 0
sum_below f (suc n) = f n + sum_below f n

-- How many planes the live vertices stand for together, a plane as often as it comes in.
abbrev pub plane_count_of : (ℕ → List Plane) → Surface → ℕ
plane_count_of planes s = sum_below (λ v. cond (is_live s v) (length (planes v)) 0) (next_vertex s)

-- No collapse of the log merges vertex v into another.
abbrev pub IsSpared : ℕ → List Collapse → Type 0
IsSpared v log = All (λ (c : Collapse). (v ≢ c.t) × (v ≢ c.u)) log
