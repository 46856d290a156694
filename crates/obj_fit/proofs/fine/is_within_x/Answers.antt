use Rattle.std.proofs.Common.{refl, ◌∙◌}
use Rattle.obj_fit.proofs.FineLaws.{exact_kept}
use Rattle.obj_fit.proofs.fine.is_within_x.Goals as goal

pub returns : goal.returns
returns c =
    let low = exact_kept c.x.result _ c.x.ensures.value c.x.ensures.in_range.0 in
    let at = exact_kept c.x-2.result _ c.x-2.ensures.value c.x-2.ensures.in_range.0 in
    let high = exact_kept c.x-3.result _ c.x-3.ensures.value c.x-3.ensures.in_range.0 in
    c.is_between.ensures ∙ rw (low, at, high) refl
