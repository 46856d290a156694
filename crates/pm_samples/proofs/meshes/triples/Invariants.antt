use Rattle.std.proofs.Common.{◌≡◌, length}
use Rattle.std.specs.List.{All}
use Rattle.pm_base.specs.Meshes.{IsFace}
use Rattle.pm_samples.proofs.meshes.triples.Given as goal

abbrev pub invariant-loop-a : goal.invariant-loop-a
invariant-loop-a l = record {
  len : length l.triples.items ≡ l.a-index;
  formed : All (IsFace l.count) l.triples.items;
}
