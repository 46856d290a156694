-- What the code keeps: fans by numbers, and counts beside the corners that are left.
use Rattle.std.specs.Prelude.{◌≡◌, ℕ, ◌+◌, ◌<◌, List, length, slice_index_or}
use Rattle.pm_base.specs.Counts.{one_if}
use Rattle.pm_ears.specs.declared.spots.Spot.{Spot}
use Rattle.pm_ears.specs.declared.spots.Triangle.{Triangle}
use Rattle.pm_ears.specs.Areas.{nowhere, lies_in, inside_of, triangle_at}

-- The triangle of the first corner, corner i and the next.
abbrev pub fan_triangle : List Spot → ℕ → Triangle
fan_triangle spots i = record {
  a = slice_index_or spots 0 nowhere;
  b = slice_index_or spots i nowhere;
  c = slice_index_or spots (i + 1) nowhere;
}

-- Of the triangles of three corners in a row the first n have their counts of corners inside.
pub record AreCounted (left : List Spot) (n : ℕ) (inside : List ℕ) : Type 0 where
  pub long : length inside ≡ n
  pub each : (i : ℕ) → i < n → slice_index_or inside i 0 ≡ inside_of (triangle_at left i) left

-- How many of the corners that are left lie in triangle i, where one that is gone counts too.
abbrev pub count_with : List Spot → Spot → ℕ → ℕ
count_with left gone i =
    inside_of (triangle_at left i) left + one_if (lies_in (triangle_at left i) gone)
