use Rattle.obj_fit.proofs.FineLaws.{between_x, exact_kept}
use Rattle.obj_fit.proofs.fine.place_x.Goals as goal

pub place_along-requires-clause-between : goal.place_along-requires-clause-between
place_along-requires-clause-between c =
    let low = exact_kept c.x.result _ c.x.ensures.value c.x.ensures.in_range.0 in
    let at = exact_kept c.x-2.result _ c.x-2.ensures.value c.x-2.ensures.in_range.0 in
    let high = exact_kept c.x-3.result _ c.x-3.ensures.value c.x-3.ensures.in_range.0 in
    rw (low, at, high) (between_x c.args.b.now c.args.p.now c.requires.inside)
