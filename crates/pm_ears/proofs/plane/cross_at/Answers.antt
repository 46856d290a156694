use Rattle.std.proofs.Common.{◌≡◌, slice_index_or, sym, ap, ◌∙◌, arith}
use Rattle.pm_ears.specs.Areas.{nowhere, cross_of}
use Rattle.pm_ears.specs.Planes.{spot_of, spots_on}
use Rattle.pm_ears.proofs.Rows.{spot_on_plane, area_kept}
use Rattle.pm_ears.proofs.plane.cross_at.Goals as goal

pub returns-clause-value : goal.returns-clause-value
returns-clause-value c =
    let plane = c.args.plane in
    let points = c.args.points.now in
    let p = c.index-points-p.result in
    let q = c.index-points-q.result in
    let a : c.spot_at.result ≡ slice_index_or (spots_on plane 0 points) c.args.p nowhere =
    c.spot_at.ensures ∙ ap (spot_of plane c.args.p) c.index-points-p.is
    ∙ sym (spot_on_plane plane points c.args.p p c.requires.p) in
    let b : c.spot_at-2.result ≡ slice_index_or (spots_on plane 0 points) c.args.q nowhere =
    c.spot_at-2.ensures ∙ ap (spot_of plane c.args.q) c.index-points-q.is
    ∙ sym (spot_on_plane plane points c.args.q q c.requires.q) in
    area_kept c.cross.result (omega (arith, c.cross.ensures.small))
    ∙ c.cross.ensures.value
    ∙ ap (λ s. cross_of s c.spot_at-2.result) a
    ∙ ap (cross_of (slice_index_or (spots_on plane 0 points) c.args.p nowhere)) b
