use Rattle.std.proofs.Common.{◌≡◌, ◌∙◌, ◌*◌, arith, subst, sym}
use Rattle.pm_base.specs.Sides.{Stands}
use Rattle.pm_shrink.specs.Shrinking.{net_at}
use Rattle.pm_simplify.proofs.AwaitedLaws.{awaited_more}
use Rattle.pm_simplify.proofs.choose.hold_back.Goals as goal

pub side-requires-clause-face : goal.side-requires-clause-face
side-requires-clause-face c =
    let low = c.requires.stands.is_side in
    let few = c.invariant.ensures.few_sides in
    omega (arith, low, few)

pub note_face-requires : goal.note_face-requires
note_face-requires c =
    let value = c.side.ensures.value in
    let is : 3 * c.args.face.0 ≡ c.side.result.0 = omega (arith, value) in
    subst (Stands (net_at c.args.shrink.now)) is c.requires.stands

pub returns-clause-awaited : goal.returns-clause-awaited
returns-clause-awaited c =
    awaited_more (net_at c.args.shrink.now) c.args.waiting.now c.wait_for.new.waiting
    c.args.awaited.now c.note_face.new.awaited c.args.face.0 c.wait_for.ensures.empty
    (λ e at. c.note_face.ensures.face e (at ∙ sym c.side.ensures.face))
    c.note_face.ensures.others
