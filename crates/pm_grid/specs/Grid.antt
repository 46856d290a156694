-- The grid of n times n cells, two faces a cell. Rows ascend with y, and in a row columns ascend
-- with x.
use Rattle.std.specs.Prelude.{ℕ, pos, ◌+◌, ◌*◌, ◌%◌, List, [], ◌∷◌, map}
use Rattle.std.specs.List.{flat_map}
use Rattle.pm_base.specs.Place.{Place}
use Rattle.pm_base.specs.declared.mesh.Corners.{Corners}
use Rattle.pm_base.specs.Meshes.{Mesh}
use Rattle.pm_base.specs.Counts.{numbers_below}

-- The vertex in row r and column c.
abbrev pub vertex : ℕ → ℕ → ℕ → ℕ
vertex n r c = r * (n + 1) + c

-- The height in row r and column c, which looks like chance.
abbrev pub height : ℕ → ℕ → ℕ
height r c = (7 * (c * c) + 11 * (c * r) + 13 * (r * r)) % 97

-- The point there: columns and rows are 100 apart.
abbrev pub grid_point : ℕ → ℕ → Place
grid_point r c = record { x = pos (100 * c); y = pos (100 * r); z = pos (height r c) }

-- The two faces of the cell whose least row and column these are; a diagonal from that corner parts
-- them.
abbrev pub lower_face : ℕ → ℕ → ℕ → Corners
lower_face n r c = record { a = vertex n r c; b = vertex n r (c + 1); c = vertex n (r + 1) (c + 1) }

abbrev pub upper_face : ℕ → ℕ → ℕ → Corners
upper_face n r c = record { a = vertex n r c; b = vertex n (r + 1) (c + 1); c = vertex n (r + 1) c }

abbrev pub cell_faces : ℕ → ℕ → ℕ → List Corners
cell_faces n r c = lower_face n r c ∷ upper_face n r c ∷ []

-- Points and faces go row by row, and in a row column by column.
abbrev pub point_row : ℕ → ℕ → List Place
point_row n r = map (grid_point r) (numbers_below (n + 1))

abbrev pub face_row : ℕ → ℕ → List Corners
face_row n r = flat_map (cell_faces n r) (numbers_below n)

unfoldable pub grid_points : ℕ → List Place
grid_points n = flat_map (point_row n) (numbers_below (n + 1))

unfoldable pub grid_faces : ℕ → List Corners
grid_faces n = flat_map (face_row n) (numbers_below n)

abbrev pub grid : ℕ → Mesh
grid n = record { points = grid_points n; faces = grid_faces n }
