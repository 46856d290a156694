use Rattle.std.proofs.Common.{length, refl}
use Rattle.pm_base.specs.Counts.{set_of}
use Rattle.pm_refine.proofs.MarkLaws.{needs_joined, needs_there}
use Rattle.pm_refine.proofs.plan.Plan.note.Goals as goal

pub push_all-requires : goal.push_all-requires
push_all-requires c =
    record {
      there =
          needs_there c.args.h.now c.args.k c.args.needed.now c.requires.needed
          (length c.args.self.now.work) c.requires.work;
    }

pub mark_all-requires : goal.mark_all-requires
mark_all-requires c =
    record {
      there =
          needs_there c.args.h.now c.args.k c.args.needed.now c.requires.needed
          (length c.args.self.now.marks.items) c.requires.marks;
    }

pub returns-then-is_split-clause-work : goal.returns-then-is_split-clause-work
returns-then-is_split-clause-work c =
    needs_joined c.args.h.now c.args.k c.args.needed.now c.requires.needed
    (set_of c.args.self.now.work) (set_of c.push_all.new.work) c.requires.record
    c.push_all.ensures.joined

pub returns-else-is_split-clause-work : goal.returns-else-is_split-clause-work
returns-else-is_split-clause-work c =
    needs_joined c.args.h.now c.args.k c.args.needed.now c.requires.needed
    (set_of c.args.self.now.work) (set_of c.push_all.new.work) c.requires.record
    c.push_all.ensures.joined

pub returns-else-is_split-clause-comes : goal.returns-else-is_split-clause-comes
returns-else-is_split-clause-comes c f = (
  needs_joined c.args.h.now c.args.k c.args.needed.now c.requires.needed
      (set_of c.args.self.now.marks.items) (set_of c.mark_all.new.marks.items) c.requires.record
      c.mark_all.ensures.marked,
  c.insert-else-is_split.ensures,
  refl,
)
