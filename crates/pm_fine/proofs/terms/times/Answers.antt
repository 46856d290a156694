use Rattle.std.proofs.Common.{◌∙◌, ap, ℤ, ◌*ℤ◌, FitsSigned, rules}
use mir.Syntax.{w128}
use Rattle.std.proofs.lemmas.Int.{to_z-of_z}
use Rattle.pm_quadric.proofs.Words.{times_fits, times_is, times_small}
use Rattle.pm_fine.proofs.terms.times.Goals as goal

pub overflow_mul-result : goal.overflow_mul-result
overflow_mul-result c =
    let ff = c.ranges.factor in
    let e = simp to_z-of_z at c.from.ensures in
    let fr : FitsSigned w128 c.from.result = search rules in
    times_fits c.args.coefficient c.from.result c.ranges.coefficient fr (rw e c.requires)

pub returns-clause-value : goal.returns-clause-value
returns-clause-value c =
    let ff = c.ranges.factor in
    let e = simp to_z-of_z at c.from.ensures in
    let fr : FitsSigned w128 c.from.result = search rules in
    times_is c.args.coefficient c.from.result c.ranges.coefficient fr (rw e c.requires)
    ∙ ap (λ (t : ℤ). c.args.coefficient *ℤ t) e

pub returns-clause-small : goal.returns-clause-small
returns-clause-small c =
    let ff = c.ranges.factor in
    let e = simp to_z-of_z at c.from.ensures in
    let fr : FitsSigned w128 c.from.result = search rules in
    times_small c.args.coefficient c.from.result c.ranges.coefficient fr (rw e c.requires)
