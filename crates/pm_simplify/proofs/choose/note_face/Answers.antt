use Rattle.std.proofs.Common.{◌≡◌, ◌∙◌, true, Bool, List, sym, ap, subst}
use Rattle.std.specs.Prelude.{slice_set}
use Rattle.pm_shrink.specs.Shrinking.{net_at}
use Rattle.pm_simplify.specs.AwaitedVertices.{is_awaited}
use Rattle.pm_simplify.proofs.AwaitedLaws.{flagged_face, flagged_stays}
use Rattle.pm_simplify.proofs.choose.note_face.Goals as goal

pub returns-clause-face : goal.returns-clause-face
returns-clause-face c = λ e at.
    let n = net_at c.args.shrink.now in
    let flags : List Bool = c.args.awaited.now in
    let a = c.vertex_at.result in
    let b = c.vertex_at-2.result in
    let d = c.vertex_at-3.result in
    let all = c.note-3.ensures
    ∙ ap (λ (l : List Bool). slice_set l d true) (c.note-2.ensures
    ∙ ap (λ (l : List Bool). slice_set l b true) c.note.ensures) in
    subst (λ (l : List Bool). is_awaited l (n.from e) ≡ true) (sym all)
    (flagged_face n c.args.side.0 flags a b d c.vertex_at.ensures
    (c.vertex_at-2.ensures ∙ ap n.from c.next.ensures.value)
    (c.vertex_at-3.ensures ∙ ap n.from c.prev.ensures.value) e at)

pub returns-clause-others : goal.returns-clause-others
returns-clause-others c = λ v is.
    let flags : List Bool = c.args.awaited.now in
    let a = c.vertex_at.result in
    let b = c.vertex_at-2.result in
    let d = c.vertex_at-3.result in
    let all = c.note-3.ensures
    ∙ ap (λ (l : List Bool). slice_set l d true) (c.note-2.ensures
    ∙ ap (λ (l : List Bool). slice_set l b true) c.note.ensures) in
    subst (λ (l : List Bool). is_awaited l v ≡ true) (sym all)
    (flagged_stays (slice_set (slice_set flags a true) b true) d v
    (flagged_stays (slice_set flags a true) b v (flagged_stays flags a v is)))
