use Rattle.std.proofs.Common.{◌≡◌, ◌-◌, refl, sym, subst, arith}
use Rattle.pm_paint.specs.Means.{count_under}
use Rattle.pm_paint.proofs.MeanLaws.{count_at}
use Rattle.pm_fit.specs.Fit.{AreMoments}
use Rattle.pm_fits.specs.Fits.{moments_of}
use Rattle.pm_fits.proofs.BoundLaws.{moments_small}
use Rattle.pm_fits.proofs.fits.moments.Goals as goal

pub overflow_sub-result : goal.overflow_sub-result
overflow_sub-result c =
    let at = count_at c.args.h.now c.invariant.ensures c.args.node.0 c.interval-from.result.0
    c.interval-from.result.1 c.requires.node c.interval-from.ensures in
    omega (arith, at.some)

pub returns-clause-value : goal.returns-clause-value
unfolding moments_of
returns-clause-value c = λ ns are.
    (let at = count_at c.args.h.now c.invariant.ensures c.args.node.0 c.interval-from.result.0
    c.interval-from.result.1 c.requires.node c.interval-from.ensures in
    let count : c.interval-from.result.1 - c.interval-from.result.0
    ≡ count_under c.args.h.now c.args.node.0 = omega (arith, at.count) in
    rw (count, c.places_under.ensures, c.numbers_under.ensures ns are) refl)

pub returns-clause-small : goal.returns-clause-small
returns-clause-small c =
    let (ns, are) = c.requires.numbers in
    subst AreMoments (sym (returns-clause-value c ns are))
    (moments_small c.args.h.now c.invariant.ensures ns are.len are.small c.args.node.0
    c.requires.node)
