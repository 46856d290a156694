use Rattle.std.proofs.Common.{ap, ◌∙◌, subst, arith}
use Rattle.pm_beyond.specs.Valid.{IsValid}
use Rattle.pm_beyond.proofs.Opening.{told_valid}
use Rattle.pm_sides.specs.Lowering.{Lowered}
use Rattle.pm_load.proofs.descent.descend.Goals as goal

pub returns-clause-valid : goal.returns-clause-valid
returns-clause-valid g c =
    let i = c.invariant.ensures in
    let none = c.in_default-lower_all.ensures.left in
    let valid = (told_valid _ i.shape i.once).1 (λ k l. i.rules k (omega (arith, none)) l) in
    subst IsValid (c.in_default-lower_all.ensures.h ∙ ap (λ (o : Lowered). o.h) c.in-Ok.ensures)
    valid
