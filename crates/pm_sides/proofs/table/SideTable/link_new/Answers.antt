use Rattle.std.proofs.Common.{◌+◌, ◌*◌, ◌∙◌, sym, ap, subst, arith}
use Rattle.pm_base.specs.Counts.{set_of}
use Rattle.pm_beyond.specs.Walks.{number_of}
use Rattle.pm_sides.proofs.RecordSides.{corner_of-record}
use Rattle.pm_sides.proofs.StoredLaws.{SplitLinks, split-begins, split-none, split-some, split-lt}
use Rattle.pm_sides.proofs.StoredLaws.{split-ends}
use Rattle.pm_sides.proofs.table.SideTable.link_new.Goals as goal
use Rattle.pm_sides.proofs.table.SideTable.link_new.Goals.{in-Some, in_default}

pub loop-side-init : goal.loop-side-init
loop-side-init c =
    let h = c.args.indexed.now in
    let T = set_of c.args.split.now in
    subst (λ n. SplitLinks h T c.args.k n c.args.self.now c.args.self.now)
    (sym (ap (λ n. 3 * n) c.first_face-side.ensures.value))
    (split-begins h c.requires.valid T c.requires.closed c.args.k c.requires.record c.requires.may
    c.args.self.now c.requires.stored)

-- the side is one of the record's, and what is read beside it is what is stored
pub set-requires-clause-there : goal.set-requires-clause-there
set-requires-clause-there c =
    let n = c.loop-side.side in
    let i = c.loop-side.invariant in
    let own = corner_of-record c.args.indexed.now c.args.k n c.requires.record
    (omega (arith, c.first_face-side.ensures.value, c.loop-side.auto.side))
    (omega (arith, c.face_after-side-end.ensures.value, c.loop-side-test.true)) in
    let read = sym c.beyond.ensures in
    let b = split-lt c.args.indexed.now c.requires.valid (set_of c.args.split.now) c.requires.closed
    c.args.k c.requires.record c.requires.may c.args.self.now c.requires.stored n
    c.in-Some.other.0 c.loop-side.self i own.0 own.1 (read ∙ ap number_of c.in-Some.is) in
    omega (arith, b, i.sides)

pub loop-side-preserved : goal.loop-side-preserved
loop-side-preserved c =
    let h = c.args.indexed.now in
    let T = set_of c.args.split.now in
    let n = c.loop-side.side in
    let i = c.loop-side.invariant in
    let old = c.args.self.now in
    let own = corner_of-record h c.args.k n c.requires.record
    (omega (arith, c.first_face-side.ensures.value, c.loop-side.auto.side))
    (omega (arith, c.face_after-side-end.ensures.value, c.loop-side-test.true)) in
    let read = sym c.beyond.ensures in
    elim c.match-beyond.branch [
      | in-Some w ↦
          subst (SplitLinks h T c.args.k (n + 1) old) (sym (w.self-is ∙ w.set.ensures))
          (split-some h c.requires.valid T c.requires.closed c.args.k c.requires.record
          c.requires.may old c.requires.stored n w.in-Some.other.0 c.loop-side.self i own.0
          own.1 (read ∙ ap number_of w.in-Some.is))
      | in_default w ↦
          subst (SplitLinks h T c.args.k (n + 1) old) (sym w.self-is)
          (split-none h c.requires.valid T c.requires.closed c.args.k c.requires.record
          c.requires.may old c.requires.stored n c.loop-side.self i own.0 own.1
          (read ∙ ap number_of w.in_default.is))
    ]

pub returns : goal.returns
returns c =
    split-ends c.args.indexed.now c.requires.valid (set_of c.args.split.now) c.requires.closed
    c.args.k c.requires.record c.requires.may c.args.self.now c.requires.stored
    c.loop-side.side c.loop-side.self c.loop-side.invariant
    (omega (arith, c.face_after-side-end.ensures.value, c.loop-side-test.false))
