use Rattle.std.proofs.Common.{◌∙◌, ap, sym, subst}
use Rattle.std.proofs.lemmas.Bool.{cond-true, cond-false}
use Rattle.pm_runs.specs.Surfaces.{Surface}
use Rattle.pm_fine_costs.specs.declared.corner.Corner.{Corner}
use Rattle.pm_fine_costs.specs.Volumes.{no_faces, face_of, face_at, has_but, IsSmall}
use Rattle.pm_fine_costs.proofs.VolumeLaws.{small_zero}
use Rattle.pm_fine_costs.proofs.volume.face_but.Goals as goal

pub returns-then-has_but-clause-value : goal.returns-then-has_but-clause-value
returns-then-has_but-clause-value c =
    let s : Surface = c.args.shrink.now.surface in
    c.zero.ensures
    ∙ sym (cond-true (has_but s c.args.but c.args.side.0) no_faces
    (face_at s c.args.p c.args.side.0) (sym c.has_but.ensures ∙ c.if-has_but.true))

pub returns-then-has_but-clause-small : goal.returns-then-has_but-clause-small
returns-then-has_but-clause-small c = subst (IsSmall 1) (sym c.zero.ensures) (small_zero 1)

pub returns-clause-value : goal.returns-clause-value
returns-clause-value c =
    let s : Surface = c.args.shrink.now.surface in
    c.of.ensures.value
    ∙ ap (λ (k : Corner). face_of k c.args.p) c.corner_of.ensures
    ∙ sym (cond-false (has_but s c.args.but c.args.side.0) no_faces
    (face_at s c.args.p c.args.side.0) (sym c.has_but.ensures ∙ c.if-has_but.false))
