use Rattle.std.proofs.Common.{subst}
use Rattle.std.specs.Prelude.{IfNone}
use Rattle.pm_base.specs.Counts.{set_of}
use Rattle.pm_forest.specs.Faces.{face_count}
use Rattle.pm_forest.specs.Kept.{is_kept}
use Rattle.pm_forest.proofs.ShapeLaws.{shape_is_forest}
use Rattle.pm_front.specs.Shown.{NonePasses, IsLeastFrom}
use Rattle.pm_front.specs.State.{State}
use Rattle.pm_front.proofs.KeptLaws.{least_kept, none_kept}
use Rattle.pm_front.proofs.front_tables.FrontTables.kept_from.Goals as goal

pub returns-in_err-face-clause-none : goal.returns-in_err-face-clause-none
returns-in_err-face-clause-none c =
    let h = c.self.inside.indexed in
    let i = c.self.invariant in
    subst (λ (s : State). IfNone c.from_residual.result
    (NonePasses (is_kept s.h (set_of s.flags)) c.args.from (face_count s.h))) c.self.view_is
    (rw c.from_residual.ensures
    (none_kept h (shape_is_forest h i.shape) (set_of c.self.inside.flags.items) i.front
    c.self.inside.kept.list i.kept_list c.args.from
    c.self.inside.kept.bound i.kept_bound c.in_err-face.ensures.none))

pub returns-clause-some : goal.returns-clause-some
returns-clause-some c =
    let h = c.self.inside.indexed in
    let i = c.self.invariant in
    subst (λ (s : State). IsLeastFrom (is_kept s.h (set_of s.flags)) c.args.from c.in_ok-face.face)
    c.self.view_is
    (least_kept h (shape_is_forest h i.shape) (set_of c.self.inside.flags.items) i.front
    c.self.inside.kept.list i.kept_list c.args.from
    c.self.inside.kept.bound i.kept_bound c.in_ok-face.face c.in_ok-face.ensures.below
    c.in_ok-face.ensures.some)
