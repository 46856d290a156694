use Rattle.std.proofs.Common.{◌≡◌, ℕ, ◌<◌, length}
use Rattle.std.specs.List.{All}
use Rattle.obj_read.specs.Fields.{fields}
use Rattle.obj_scan.specs.Judged.{indices}
use Rattle.obj_scan.proofs.IndexLaws.{and_then}
use Rattle.obj_scan.proofs.fields.read_corners.Given as goal

abbrev pub invariant-loop-field : goal.invariant-loop-field
invariant-loop-field l = record {
  read : indices l.vertices (fields l.text)
      ≡ and_then l.corners.items (indices l.vertices (fields l.rest));
  within : All (λ (c : ℕ). c < l.vertices) l.corners.items;
}

abbrev pub decreases-loop-field : goal.decreases-loop-field
decreases-loop-field l = length (fields l.rest)
