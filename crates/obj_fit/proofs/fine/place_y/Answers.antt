use Rattle.obj_fit.proofs.FineLaws.{between_y, exact_kept}
use Rattle.obj_fit.proofs.fine.place_y.Goals as goal

pub place_along-requires-clause-between : goal.place_along-requires-clause-between
place_along-requires-clause-between c =
    let low = exact_kept c.y.result _ c.y.ensures.value c.y.ensures.in_range.1 in
    let at = exact_kept c.y-2.result _ c.y-2.ensures.value c.y-2.ensures.in_range.1 in
    let high = exact_kept c.y-3.result _ c.y-3.ensures.value c.y-3.ensures.in_range.1 in
    rw (low, at, high) (between_y c.args.b.now c.args.p.now c.requires.inside)
