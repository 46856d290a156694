use Rattle.std.proofs.Common.{◌≡◌, drop, ℕ, ◌<◌}
use Rattle.std.specs.List.{All}
use Rattle.ply_read.specs.Body.{with_property, empty_row}
use Rattle.ply_read.specs.Steps.{folded}
use Rattle.ply_read.specs.Told.{row_in}
use Rattle.ply_read.proofs.row.RowReader.take_all.Given as goal

abbrev pub invariant-loop-p : goal.invariant-loop-p
invariant-loop-p l = record {
  within : All (λ (c : ℕ). c < l.vertices) l.self.corners.items;
  rest :
      folded (with_property l.e l.kind l.vertices) (drop l.p-index l.properties)
      (row_in l.self l.after)
      ≡ folded (with_property l.e l.kind l.vertices) l.properties (empty_row l.rest);
}
