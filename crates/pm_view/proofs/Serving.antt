-- When measures serve a view.
use Rattle.std.proofs.Common.{◌≡◌, true, arith}
use Rattle.std.proofs.lemmas.Grind.{common_steps}
use Rattle.pm_forest.specs.Forest.{Hierarchy}
use Rattle.pm_deviation.specs.Deviations.{Measures, AreMeasuresOf, has_deviations}
use Rattle.pm_view.specs.declared.measure.Measure.TheVariants as measures
use Rattle.pm_view.specs.Views.{View}
use Rattle.pm_view.specs.Wanted.{Serves}

-- Without deviations they serve each view by errors.
pub serves_errors : (h : Hierarchy) (view : View) (m : Measures) → AreMeasuresOf h m
    → view.measure ≡ measures.Error → Serves h view m
serves_errors h view m are by = grind (arith, common_steps)

-- With them they serve each view.
pub serves_all : (h : Hierarchy) (view : View) (m : Measures) → AreMeasuresOf h m
    → has_deviations m ≡ true → Serves h view m
serves_all h view m are there = record { are = are; enough = λ _. there }
