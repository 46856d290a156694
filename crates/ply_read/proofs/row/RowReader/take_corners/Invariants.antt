use Rattle.std.proofs.Common.{◌≡◌, ◌-◌, ℕ, ◌<◌}
use Rattle.std.specs.List.{All}
use Rattle.ply_read.specs.Body.{with_corner}
use Rattle.ply_read.specs.Steps.{repeated}
use Rattle.ply_read.specs.Told.{row_in}
use Rattle.ply_read.proofs.row.RowReader.take_corners.Given as goal

abbrev pub invariant-loop-i : goal.invariant-loop-i
invariant-loop-i l = record {
  within : All (λ (c : ℕ). c < l.vertices) l.self.corners.items;
  rest :
      repeated (with_corner l.e l.vertices l.t) (l.n - l._i) (row_in l.self l.after)
      ≡ repeated (with_corner l.e l.vertices l.t) l.n (row_in l.fn.self l.rest);
}
