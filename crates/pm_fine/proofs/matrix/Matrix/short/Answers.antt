use Rattle.std.proofs.Common.{sym, subst, rules}
use Rattle.pm_fine.specs.declared.matrix.Matrix.{Matrix}
use Rattle.pm_fine.specs.Within.{IsMatrixWithin}
use Rattle.pm_fine.proofs.CramerBounds.{matrix_short}
use Rattle.pm_fine.proofs.matrix.Matrix.short.Goals as goal

pub returns-clause-value : goal.returns-clause-value
returns-clause-value c = search rules

pub returns-clause-within : goal.returns-clause-within
returns-clause-within c m h =
    let short_is = matrix_short c.args.self.now c.args.digits m h in
    subst (λ (a : Matrix). IsMatrixWithin m a) (sym (returns-clause-value c)) short_is
