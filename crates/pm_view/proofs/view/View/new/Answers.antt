use Rattle.std.proofs.Common.{List, subst, sym, ◌∙◌}
use Rattle.pm_view.specs.declared.plane.Plane.{Plane}
use Rattle.pm_view.specs.declared.measure.Measure.TheVariants as measures
use Rattle.pm_view.specs.Views.{View, IsView}
use Rattle.pm_view.proofs.ViewLaws.{tested}
use Rattle.pm_view.proofs.view.View.new.Goals as goal

pub invariant_of-result : goal.invariant_of-result
invariant_of-result c =
    let with : List Plane → View = λ planes. record {
      measure = measures.Error;
      eye = c.in_ok-eye.eye;
      focal = c.args.focal;
      tol = c.args.tol;
      sil = c.args.sil;
      planes = planes;
    } in
    subst (λ (planes : List Plane). IsView (with planes)) c.as_slice.ensures.value
    (tested (with c.as_slice.result.now) _ c.in_ok-eye.ensures.some c.in_ok-eye.ensures.in_range
    (sym c.are_in_range.ensures ∙ c.if-are_in_range.true) c.as_slice.ensures.fits)
