use Rattle.obj_fit.proofs.FineLaws.{between_z, exact_kept}
use Rattle.obj_fit.proofs.fine.place_z.Goals as goal

pub place_along-requires-clause-between : goal.place_along-requires-clause-between
place_along-requires-clause-between c =
    let low = exact_kept c.z.result _ c.z.ensures.value c.z.ensures.in_range.2 in
    let at = exact_kept c.z-2.result _ c.z-2.ensures.value c.z-2.ensures.in_range.2 in
    let high = exact_kept c.z-3.result _ c.z-3.ensures.value c.z-3.ensures.in_range.2 in
    rw (low, at, high) (between_z c.args.b.now c.args.p.now c.requires.inside)
