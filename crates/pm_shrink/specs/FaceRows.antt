-- How the rows of a table of faces hold what contracts see.
use Rattle.std.specs.Prelude.{ℕ, ◌*◌, ◌%◌, Option, None, List, [], length, map, slice_index_or}
use Rattle.std.specs.Prelude.{unwrap_or}
use Rattle.std.specs.List.{range_with_len}
use Rattle.pm_base.specs.declared.mesh.Corners.{Corners}
use Rattle.pm_base.specs.Sides.{face_of, corner_in, no_corners}
use Rattle.pm_shrink.specs.declared.faces.Row.{Row}

-- The faces by number, each with its corners or none where it was dropped; and by number of a side
-- what stands across it.
pub record Faces : Type 0 where
  pub faces : List (Option Corners)
  pub across : List (Option ℕ)

-- The vertex from which a side runs, as in the surface of these faces.
abbrev pub side_from : List (Option Corners) → ℕ → ℕ
side_from faces e = corner_in (unwrap_or (slice_index_or faces (face_of e) None) no_corners) (e % 3)

-- What stands across side number 0, 1 or 2 of a face.
abbrev pub across_in : Row → ℕ → Option ℕ
across_in r i = slice_index_or r.across i None

abbrev pub no_row : Row
no_row = record { corners = None; across = [] }

abbrev pub face_row : List Row → ℕ → Row
face_row rows f = slice_index_or rows f no_row

abbrev pub row_corners : List Row → List (Option Corners)
row_corners rows = map (λ (r : Row). r.corners) rows

-- What stands across each side of the faces.
unfoldable pub across_of : List Row → List (Option ℕ)
across_of rows =
    map (λ e. across_in (face_row rows (face_of e)) (e % 3)) (range_with_len 0 (3 * length rows))
