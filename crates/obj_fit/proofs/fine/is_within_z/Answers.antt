use Rattle.std.proofs.Common.{refl, ◌∙◌}
use Rattle.obj_fit.proofs.FineLaws.{exact_kept}
use Rattle.obj_fit.proofs.fine.is_within_z.Goals as goal

pub returns : goal.returns
returns c =
    let low = exact_kept c.z.result _ c.z.ensures.value c.z.ensures.in_range.2 in
    let at = exact_kept c.z-2.result _ c.z-2.ensures.value c.z-2.ensures.in_range.2 in
    let high = exact_kept c.z-3.result _ c.z-3.ensures.value c.z-3.ensures.in_range.2 in
    c.is_between.ensures ∙ rw (low, at, high) refl
