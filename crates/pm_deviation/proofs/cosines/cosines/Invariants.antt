use Rattle.std.proofs.Common.{◌≡◌, ℕ, length, Option}
use Rattle.pm_forest.specs.Forest.{node_count}
use Rattle.pm_deviation.specs.declared.axes.Axis.{Axis}
use Rattle.pm_deviation.specs.declared.spread.Spread.{Spread}
use Rattle.pm_deviation.specs.Tables.{HaveSpreads}
use Rattle.pm_deviation.proofs.CosineTables.{AreRaised}
use Rattle.pm_deviation.proofs.cosines.cosines.Given as goal

abbrev pub invariant-loop-i : goal.invariant-loop-i
invariant-loop-i l = record {
  len : length l.cosines.items ≡ node_count l.h;
  raised : (spread : Axis → ℕ → Option Spread) → HaveSpreads l.h spread l.headings
      → AreRaised l.h spread l.i l.cosines.items;
}
