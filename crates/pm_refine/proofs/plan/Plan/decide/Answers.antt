use Rattle.std.proofs.Common.{Bool, set, length-set, false, sym, subst, ◌∙◌, arith}
use Rattle.pm_base.specs.Counts.{set_of}
use Rattle.pm_forest.specs.Forest.{Hierarchy}
use Rattle.pm_beyond.specs.Moves.{needs}
use Rattle.pm_refine.specs.Aims.{sets_of}
use Rattle.pm_refine.specs.Holding.{Joins}
use Rattle.pm_refine.proofs.DecidingLaws.{same_there}
use Rattle.pm_refine.proofs.StayingLaws.{collapses_split, next_absent}
use Rattle.pm_refine.proofs.DecidedLaws.{stays_same, stays_other, decided_same, decided_by}
use Rattle.pm_refine.proofs.DecisionCounts.{paid}
use Rattle.pm_refine.proofs.plan.Plan.decide.Goals as goal

pub stays-stays-requires-clause-split : goal.stays-stays-requires-clause-split
stays-stays-requires-clause-split g c = collapses_split c.invariant.ensures c.requires.next

pub note-requires-clause-absent : goal.note-requires-clause-absent
note-requires-clause-absent g c = next_absent c.invariant.ensures c.requires.next

pub returns-then-stays-is_split-clause-decided : goal.returns-then-stays-is_split-clause-decided
returns-then-stays-is_split-clause-decided g c =
    decided_same c.invariant.ensures c.requires.next
    (stays_same c.invariant.ensures c.requires.next c.is_split-is_split.ensures
    c.stays-stays.ensures.value c.if-stays-is_split.true)

pub returns-then-stays-is_split-clause-answer : goal.returns-then-stays-is_split-clause-answer
returns-then-stays-is_split-clause-answer g c =
    let both = stays_same c.invariant.ensures c.requires.next c.is_split-is_split.ensures
    c.stays-stays.ensures.value c.if-stays-is_split.true in
    sym (same_there c.invariant.ensures c.args.k (both.0 ∙ sym both.1))

pub returns-clause-decided : goal.returns-clause-decided
returns-clause-decided g c =
    let k = c.args.k in
    let n = c.requires.next in
    let held = sets_of c.args.self.now in
    let new = sets_of c.note.new.self in
    let both = stays_other c.invariant.ensures n c.is_split-is_split.ensures
    c.stays-stays.ensures.value c.if-stays-is_split.false in
    decided_by c.invariant.ensures new.marks new.work new.splits new.collapses n
    c.is_split-is_split.ensures both.0
    (c.note.ensures.len ∙ length-set {A = Bool} held.marks k false ∙ n.mark_len)
    (c.note.ensures.work_len ∙ n.work_len)
    (subst (λ (x : Hierarchy). Joins (set_of held.work) (set_of new.work) (needs x k))
    c.hierarchy.ensures c.note.ensures.work) c.note.ensures.goes
    (λ f. let p =
    c.note.ensures.comes f in (
      subst (λ (x : Hierarchy). Joins (set_of (set held.marks k false)) (set_of new.marks)
          (needs x k)) c.hierarchy.ensures p.0,
      p.1,
      p.2,
    ))

pub returns-clause-answer : goal.returns-clause-answer
returns-clause-answer g c =
    sym (stays_other c.invariant.ensures c.requires.next c.is_split-is_split.ensures
    c.stays-stays.ensures.value c.if-stays-is_split.false).1

pub returns-then-stays-is_split-clause-cost : goal.returns-then-stays-is_split-clause-cost
returns-then-stays-is_split-clause-cost g c =
    let fee = paid c.invariant.ensures c.requires.next in
    let cost = c.stays-stays.ensures.cost in
    omega arith

pub returns-clause-cost : goal.returns-clause-cost
returns-clause-cost g c =
    let fee = paid c.invariant.ensures c.requires.next in
    let cost = c.stays-stays.ensures.cost in
    omega arith
