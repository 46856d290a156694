use Rattle.std.proofs.Common.{length, ◌+◌, ◌∙◌, sym, ap, subst, arith}
use Rattle.pm_base.specs.declared.limits.TheConstants.{MOST_SIDES}
use Rattle.pm_base.specs.Counts.{set_of}
use Rattle.pm_base.specs.Sides.{beside_side, next}
use Rattle.pm_forest.proofs.FaceLimits.{face_count-most}
use Rattle.pm_beyond.specs.Walks.{number_of}
use Rattle.pm_sides.specs.Stored.{put_beside}
use Rattle.pm_sides.proofs.RecordSides.{face-record}
use Rattle.pm_sides.proofs.CollapseLaws.{LinkedBelow, may-link_over}
use Rattle.pm_sides.proofs.CollapseLaws.{collapse-begins, collapse-face, collapse-ends}
use Rattle.pm_sides.proofs.CollapseLaws.{first-below, second-below}
use Rattle.pm_sides.proofs.StoredLaws.{length-put_beside}
use Rattle.pm_sides.proofs.table.SideTable.link_over.Goals as goal

pub loop-face-init : goal.loop-face-init
loop-face-init c =
    let h = c.args.indexed.now in
    let T = set_of c.args.split.now in
    let k = c.args.k in
    let old = c.args.self.now in
    let may = may-link_over h c.invariant.ensures c.requires.once T k c.requires.record
    c.requires.is_split c.requires.told old c.requires.stored in
    subst (λ f. LinkedBelow h T k f old old) (sym c.first_face-face.ensures.value)
    (collapse-begins h T k old may)

pub inner-requires-clause-own : goal.inner-requires-clause-own
inner-requires-clause-own c =
    let h = c.args.indexed.now in
    let k = c.args.k in
    let f = c.loop-face.face in
    let own = face-record h k f c.requires.record
    (omega (arith, c.first_face-face.ensures.value, c.loop-face.auto.face))
    (omega (arith, c.face_after-face-end.ensures.value, c.loop-face-test.true)) in
    own.1

pub put_beside-requires-clause-there : goal.put_beside-requires-clause-there
put_beside-requires-clause-there c =
    let h = c.args.indexed.now in
    let T = set_of c.args.split.now in
    let k = c.args.k in
    let f = c.loop-face.face in
    let old = c.args.self.now in
    let now = c.loop-face.self in
    let may = may-link_over h c.invariant.ensures c.requires.once T k c.requires.record
    c.requires.is_split c.requires.told old c.requires.stored in
    let own = face-record h k f c.requires.record
    (omega (arith, c.first_face-face.ensures.value, c.loop-face.auto.face))
    (omega (arith, c.face_after-face-end.ensures.value, c.loop-face-test.true)) in
    let first = c.next-side.ensures.value ∙ ap next c.inner.ensures.value in
    first-below h T k old may f own.0 own.1 now c.loop-face.invariant c.beyond-first.result
    (c.beyond-first.ensures ∙ ap (beside_side now) first) (length now)
    (omega (arith, c.loop-face.invariant.sides))

pub put_beside-requires-clause-small : goal.put_beside-requires-clause-small
put_beside-requires-clause-small c =
    let h = c.args.indexed.now in
    let T = set_of c.args.split.now in
    let k = c.args.k in
    let f = c.loop-face.face in
    let old = c.args.self.now in
    let now = c.loop-face.self in
    let may = may-link_over h c.invariant.ensures c.requires.once T k c.requires.record
    c.requires.is_split c.requires.told old c.requires.stored in
    let own = face-record h k f c.requires.record
    (omega (arith, c.first_face-face.ensures.value, c.loop-face.auto.face))
    (omega (arith, c.face_after-face-end.ensures.value, c.loop-face-test.true)) in
    let first = c.next-side.ensures.value ∙ ap next c.inner.ensures.value in
    let second = c.next.ensures.value ∙ ap next first in
    let few = face_count-most h c.invariant.ensures in
    second-below h T k old may f own.0 own.1 now c.loop-face.invariant c.beyond-second.result
    (c.beyond-second.ensures ∙ ap (beside_side now) second) MOST_SIDES
    (omega (arith, few))

pub put_beside-requires-in-loop-face-clause-there :
    goal.put_beside-requires-in-loop-face-clause-there
put_beside-requires-in-loop-face-clause-there c =
    let h = c.args.indexed.now in
    let T = set_of c.args.split.now in
    let k = c.args.k in
    let f = c.loop-face.face in
    let old = c.args.self.now in
    let now = c.loop-face.self in
    let may = may-link_over h c.invariant.ensures c.requires.once T k c.requires.record
    c.requires.is_split c.requires.told old c.requires.stored in
    let own = face-record h k f c.requires.record
    (omega (arith, c.first_face-face.ensures.value, c.loop-face.auto.face))
    (omega (arith, c.face_after-face-end.ensures.value, c.loop-face-test.true)) in
    let first = c.next-side.ensures.value ∙ ap next c.inner.ensures.value in
    let second = c.next.ensures.value ∙ ap next first in
    let same = ap length c.put_beside.ensures
    ∙ length-put_beside now (number_of c.beyond-first.result) (number_of c.beyond-second.result) in
    second-below h T k old may f own.0 own.1 now c.loop-face.invariant c.beyond-second.result
    (c.beyond-second.ensures ∙ ap (beside_side now) second) (length c.put_beside.new.self)
    (omega (arith, same, c.loop-face.invariant.sides))

pub put_beside-requires-in-loop-face-clause-small :
    goal.put_beside-requires-in-loop-face-clause-small
put_beside-requires-in-loop-face-clause-small c =
    let h = c.args.indexed.now in
    let T = set_of c.args.split.now in
    let k = c.args.k in
    let f = c.loop-face.face in
    let old = c.args.self.now in
    let now = c.loop-face.self in
    let may = may-link_over h c.invariant.ensures c.requires.once T k c.requires.record
    c.requires.is_split c.requires.told old c.requires.stored in
    let own = face-record h k f c.requires.record
    (omega (arith, c.first_face-face.ensures.value, c.loop-face.auto.face))
    (omega (arith, c.face_after-face-end.ensures.value, c.loop-face-test.true)) in
    let first = c.next-side.ensures.value ∙ ap next c.inner.ensures.value in
    let few = face_count-most h c.invariant.ensures in
    first-below h T k old may f own.0 own.1 now c.loop-face.invariant c.beyond-first.result
    (c.beyond-first.ensures ∙ ap (beside_side now) first) MOST_SIDES
    (omega (arith, few))

pub loop-face-preserved : goal.loop-face-preserved
loop-face-preserved c =
    let h = c.args.indexed.now in
    let T = set_of c.args.split.now in
    let k = c.args.k in
    let f = c.loop-face.face in
    let old = c.args.self.now in
    let now = c.loop-face.self in
    let may = may-link_over h c.invariant.ensures c.requires.once T k c.requires.record
    c.requires.is_split c.requires.told old c.requires.stored in
    let own = face-record h k f c.requires.record
    (omega (arith, c.first_face-face.ensures.value, c.loop-face.auto.face))
    (omega (arith, c.face_after-face-end.ensures.value, c.loop-face-test.true)) in
    let first = c.next-side.ensures.value ∙ ap next c.inner.ensures.value in
    let second = c.next.ensures.value ∙ ap next first in
    let a = number_of c.beyond-first.result in
    let b = number_of c.beyond-second.result in
    subst (LinkedBelow h T k (f + 1) old)
    (sym (c.put_beside-in-loop-face.ensures ∙ ap (λ t. put_beside t b a) c.put_beside.ensures))
    (collapse-face h T k old may f own.0 own.1 now c.loop-face.invariant a b
    (c.beyond-first.ensures ∙ ap (beside_side now) first)
    (c.beyond-second.ensures ∙ ap (beside_side now) second))

pub returns : goal.returns
returns c =
    let h = c.args.indexed.now in
    let T = set_of c.args.split.now in
    let k = c.args.k in
    let old = c.args.self.now in
    let may = may-link_over h c.invariant.ensures c.requires.once T k c.requires.record
    c.requires.is_split c.requires.told old c.requires.stored in
    collapse-ends h T k old may c.loop-face.face c.loop-face.self c.loop-face.invariant
    (omega (arith, c.face_after-face-end.ensures.value, c.loop-face-test.false))
