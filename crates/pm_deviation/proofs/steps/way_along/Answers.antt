use Rattle.std.proofs.Common.{◌*◌, ◌≤◌, min, sym, ap, ◌∙◌, subst}
use Rattle.pm_base.specs.Geometry.{dist2_of}
use Rattle.pm_base.specs.Rounded.{distance_of}
use Rattle.pm_deviation.proofs.RootLaws.{min_by_square}
use Rattle.pm_deviation.proofs.steps.way_along.Goals as goal

pub returns-then-most-dist2-clause-value : goal.returns-then-most-dist2-clause-value
returns-then-most-dist2-clause-value c =
    let most = c.most_along-most.result in
    let short : most * most ≤ dist2_of c.args.p c.args.q =
    subst (λ d. most * most ≤ d) c.dist2.ensures.value c.if-most-dist2.true in
    sym (min_by_square (dist2_of c.args.p c.args.q) most short)
    ∙ ap (min (distance_of c.args.p c.args.q)) c.most_along-most.ensures.value
