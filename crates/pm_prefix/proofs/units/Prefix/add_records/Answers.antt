use Rattle.std.proofs.Common.{◌∙◌, sym, ap, arith}
use Rattle.pm_forest.specs.Rules.{head_of}
use Rattle.pm_forest.specs.Faces.{first_face}
use Rattle.pm_prefix.specs.Tables.{whole, hierarchy_by}
use Rattle.pm_prefix.proofs.Parts.{record_count-first, record_at-first}
use Rattle.pm_prefix.proofs.FeedLaws.{expects_head, head_passes}
use Rattle.pm_prefix.proofs.Feeding.{shaped, new_left, new_right, few_left, few_right, next_face_is}
use Rattle.pm_prefix.proofs.Feeding.{head_fed, left_fed, right_fed, record_fed}
use Rattle.pm_prefix.proofs.units.Prefix.add_records.Goals as goal

pub loop-k-init : goal.loop-k-init
unfolding first_face
loop-k-init c = record { number = c.bases-f.ensures.value; taken = c.requires.before }

pub add_head-requires : goal.add_head-requires
add_head-requires c =
    let p = c.args.self.now in
    let all = record_count-first (whole p) p.n in
    expects_head (hierarchy_by p) (shaped p c.requires.prefix) c.loop-k.k (omega arith)
    c.loop-k.invariant.taken

pub unreachable-requires : goal.unreachable-requires
unreachable-requires c =
    let p = c.args.self.now in
    let all = record_count-first (whole p) p.n in
    head_passes (hierarchy_by p) (shaped p c.requires.prefix) c.loop-k.k (omega arith)
    c.loop-k.invariant.taken
    (c.head.ensures ∙ ap head_of (sym (record_at-first (whole p) p.n c.loop-k.k (omega arith))))
    c.in_default.ensures.fault

pub add_face-f-requires-clause-number : goal.add_face-f-requires-clause-number
add_face-f-requires-clause-number c =
    few_left c.args.self.now c.requires.prefix c.loop-k.k c.loop-k-test.true
    c.loop-k.invariant.number

pub add_face-f-requires-clause-inside : goal.add_face-f-requires-clause-inside
add_face-f-requires-clause-inside c =
    new_left c.args.self.now c.requires.prefix c.loop-k.k c.loop-k-test.true
    c.record-split.ensures

pub add_face-f-requires-clause-due : goal.add_face-f-requires-clause-due
add_face-f-requires-clause-due c =
    let head = c.in-Ok.ensures.taken ∙ head_fed c.args.self.now c.requires.prefix c.loop-k.k
    c.loop-k-test.true c.loop-k.invariant.taken c.head.ensures in
    left_fed c.args.self.now c.requires.prefix c.loop-k.k c.loop-k-test.true head
    c.loop-k.invariant.number c.record-split.ensures

pub add_face-f-requires-in-loop-k-clause-number : goal.add_face-f-requires-in-loop-k-clause-number
add_face-f-requires-in-loop-k-clause-number c =
    few_right c.args.self.now c.requires.prefix c.loop-k.k c.loop-k-test.true
    c.record-split.result.now.left c.loop-k.invariant.number c.add_face-f.ensures.next

pub add_face-f-requires-in-loop-k-clause-inside : goal.add_face-f-requires-in-loop-k-clause-inside
add_face-f-requires-in-loop-k-clause-inside c =
    new_right c.args.self.now c.requires.prefix c.loop-k.k c.loop-k-test.true
    c.record-split.ensures

pub add_face-f-requires-in-loop-k-clause-due : goal.add_face-f-requires-in-loop-k-clause-due
add_face-f-requires-in-loop-k-clause-due c =
    let head = c.in-Ok.ensures.taken ∙ head_fed c.args.self.now c.requires.prefix c.loop-k.k
    c.loop-k-test.true c.loop-k.invariant.taken c.head.ensures in
    right_fed c.args.self.now c.requires.prefix c.loop-k.k c.loop-k-test.true head
    c.loop-k.invariant.number c.record-split.ensures c.add_face-f.ensures.taken
    c.add_face-f.ensures.next

pub loop-k-preserved : goal.loop-k-preserved
loop-k-preserved c =
    let head = c.in-Ok.ensures.taken ∙ head_fed c.args.self.now c.requires.prefix c.loop-k.k
    c.loop-k-test.true c.loop-k.invariant.taken c.head.ensures in
    record {
      number = next_face_is c.args.self.now c.requires.prefix c.loop-k.k c.loop-k-test.true
          c.loop-k.invariant.number c.record-split.ensures c.add_face-f.ensures.next
          c.add_face-f-in-loop-k.ensures.next;
      taken = record_fed c.args.self.now c.requires.prefix c.loop-k.k c.loop-k-test.true head
          c.loop-k.invariant.number c.record-split.ensures c.add_face-f.ensures.taken
          c.add_face-f.ensures.next c.add_face-f-in-loop-k.ensures.taken;
    }
