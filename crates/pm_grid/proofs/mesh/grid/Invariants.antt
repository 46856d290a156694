use Rattle.std.proofs.Common.{◌≡◌}
use Rattle.std.specs.List.{flat_map}
use Rattle.pm_grid.specs.Grid.{point_row, face_row}
use Rattle.pm_base.specs.Counts.{numbers_below}
use Rattle.pm_grid.proofs.mesh.grid.Given as goal

abbrev pub invariant-loop-row : goal.invariant-loop-row
invariant-loop-row l = l.points.items ≡ flat_map (point_row l.n) (numbers_below l.row)

abbrev pub invariant-loop-cell_row : goal.invariant-loop-cell_row
invariant-loop-cell_row l = l.faces.items ≡ flat_map (face_row l.n) (numbers_below l.cell_row)
