use Rattle.std.proofs.Common.{sym, subst, rules}
use Rattle.pm_quadric.specs.Sums.{Sums}
use Rattle.pm_fine.specs.FineSums.{IsFineQuadric}
use Rattle.pm_fine.proofs.CramerBounds.{IsBalancedMatrix, matrix_balanced}
use Rattle.pm_fine.proofs.fine_quadric.FineQuadric.matrix.Goals as goal

pub returns-clause-value : goal.returns-clause-value
returns-clause-value c = search rules

pub returns-clause-balanced : goal.returns-clause-balanced
returns-clause-balanced c =
    let s : Sums = c.args.self.now in
    let h : IsFineQuadric s = subst IsFineQuadric c.self.view_is c.self.invariant in
    subst IsBalancedMatrix (sym (returns-clause-value c)) (matrix_balanced s h)
