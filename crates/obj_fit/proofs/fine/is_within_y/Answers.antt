use Rattle.std.proofs.Common.{refl, ◌∙◌}
use Rattle.obj_fit.proofs.FineLaws.{exact_kept}
use Rattle.obj_fit.proofs.fine.is_within_y.Goals as goal

pub returns : goal.returns
returns c =
    let low = exact_kept c.y.result _ c.y.ensures.value c.y.ensures.in_range.1 in
    let at = exact_kept c.y-2.result _ c.y-2.ensures.value c.y-2.ensures.in_range.1 in
    let high = exact_kept c.y-3.result _ c.y-3.ensures.value c.y-3.ensures.in_range.1 in
    c.is_between.ensures ∙ rw (low, at, high) refl
