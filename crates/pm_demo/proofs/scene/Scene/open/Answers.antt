use Rattle.std.proofs.Common.{◌∙◌, ap, subst}
use Rattle.pm_forest.specs.Forest.{Hierarchy, record_count}
use Rattle.pm_deviation.specs.Deviations.{AreMeasuresOf}
use Rattle.pm_demo.proofs.scene.Scene.open.Goals as goal

pub invariant_of-result : goal.invariant_of-result
invariant_of-result c = record {
  are_its_measures =
      subst (λ (h : Hierarchy). AreMeasuresOf h c.in_ok-measures.measures) c.hierarchy.ensures
      c.in_ok-measures.ensures.are;
  room_fits = c.in_ok-refiner.ensures ∙ ap record_count c.hierarchy-2.ensures;
}
