use Rattle.std.proofs.Common.{ℕ, ◌<◌, ◌^◌, ◌∙◌, sym, subst, FitsSigned, rules}
use mir.Syntax.{w128}
use Rattle.pm_quadric.proofs.Words.{abs_read}
use Rattle.pm_quadric.proofs.QuadricLaws.{polynomial_is}
use Rattle.pm_fine.proofs.FineLaws.{polynomial_below}
use Rattle.pm_fine.proofs.fine_quadric.FineQuadric.value_at.Goals as goal

pub returns-clause-lists : goal.returns-clause-lists
returns-clause-lists c fs e =
    let fits : FitsSigned w128 c.polynomial_at.result = search rules in
    abs_read _ _ _ fits c.unsigned_abs.ensures.value c.polynomial_at.ensures.value
    ∙ polynomial_is c.args.self.now fs c.args.p e

pub returns-clause-small : goal.returns-clause-small
returns-clause-small c =
    let fits : FitsSigned w128 c.polynomial_at.result = search rules in
    subst (λ (n : ℕ). n < 2 ^ 115)
    (sym (abs_read _ _ _ fits c.unsigned_abs.ensures.value c.polynomial_at.ensures.value))
    (polynomial_below c.args.self.now c.args.p c.polynomial_at.ensures.quadric
    c.polynomial_at.ensures.in_range)
