use Rattle.std.proofs.Common.{◌≡◌, ◌∙◌, arith}
use Rattle.pm_bounds.specs.Bounds.{error_of}
use Rattle.pm_deviation.specs.Deviations.{plane_deviation_of, line_deviation_of}
use Rattle.pm_deviation.proofs.GrowingLaws.{planes_below, lines_below, deviation_by}
use Rattle.pm_deviation.proofs.deviations.node_deviation.Goals as goal

pub deviation-requires-clause-planes : goal.deviation-requires-clause-planes
deviation-requires-clause-planes c =
    let h = c.args.h.now in
    let v = c.args.node.0 in
    let node = c.requires.node in
    let planes : c.of.result.distance ≡ plane_deviation_of h v =
    c.of.ensures.distance ∙ c.requires.planes.each v node in
    let error : c.error-error.result ≡ error_of h v =
    c.error-error.ensures.value ∙ c.requires.bounds.errors v node in
    omega (arith, planes, error, planes_below h c.invariant.ensures v node)

pub deviation-requires-clause-lines : goal.deviation-requires-clause-lines
deviation-requires-clause-lines c =
    let h = c.args.h.now in
    let v = c.args.node.0 in
    let node = c.requires.node in
    let lines : c.of-2.result.distance ≡ line_deviation_of h v =
    c.of-2.ensures.distance ∙ c.requires.lines.each v node in
    let error : c.error-error.result ≡ error_of h v =
    c.error-error.ensures.value ∙ c.requires.bounds.errors v node in
    omega (arith, lines, error, lines_below h c.invariant.ensures v node)

pub returns-clause-value : goal.returns-clause-value
returns-clause-value c =
    let h = c.args.h.now in
    let v = c.args.node.0 in
    let node = c.requires.node in
    let planes = c.of.ensures in
    let lines = c.of-2.ensures in
    deviation_by h c.invariant.ensures v c.error-error.result c.of.result.distance
    c.of.result.cosine
    c.of-2.result.distance c.of-2.result.cosine c.deviation.result c.deviation.ensures.value
    (c.error-error.ensures.value ∙ c.requires.bounds.errors v node)
    (planes.distance ∙ c.requires.planes.each v node)
    (planes.cosine ∙ c.requires.cosines.each v node)
    (lines.distance ∙ c.requires.lines.each v node)
    (lines.cosine ∙ c.requires.line_cosines.each v node)
