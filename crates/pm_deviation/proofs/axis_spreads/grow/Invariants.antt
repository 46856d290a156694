use Rattle.std.proofs.Common.{◌≡◌, ℕ, length, Option}
use Rattle.std.specs.Prelude.{None}
use Rattle.pm_forest.specs.Forest.{node_count}
use Rattle.pm_deviation.specs.declared.spread.Spread.{Spread}
use Rattle.pm_deviation.specs.Tables.{AreOwn, AreJoined}
use Rattle.pm_deviation.proofs.NodeTables.{AreFoundFrom}
use Rattle.pm_deviation.proofs.axis_spreads.grow.Given as goal

abbrev pub invariant-loop-k : goal.invariant-loop-k
invariant-loop-k l = record {
  len : length l.table.items ≡ node_count l.h;
  found : (value : ℕ → Option Spread) → AreJoined l.h value
      → AreOwn l.h None value l.fn.table.items → AreFoundFrom l.h None value l.table.items l.k;
}
