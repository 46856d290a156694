use Rattle.std.proofs.Common.{◌≡◌, ◌∙◌, length, is_some, sym, arith}
use Rattle.pm_base.proofs.Counts.{one_if-le}
use Rattle.pm_number.specs.Tables.{run_in}
use Rattle.pm_number.proofs.FaceTables.{faces_start, next_small, dropped_more, faces_all}
use Rattle.pm_number.proofs.run.Run.number_dropped.Goals as goal

pub number_gone-next-requires-clause-few : goal.number_gone-next-requires-clause-few
number_gone-next-requires-clause-few c =
    omega (arith, next_small c.requires.run c.loop-d.invariant (omega arith))

pub number_gone-next-requires-in-loop-d-clause-few :
    goal.number_gone-next-requires-in-loop-d-clause-few
number_gone-next-requires-in-loop-d-clause-few c =
    omega (
      arith,
      next_small c.requires.run c.loop-d.invariant (omega arith),
      c.number_gone-next.ensures.next,
      one_if-le (is_some c.step-collapse.result.now.left),
    )

pub loop-d-init : goal.loop-d-init
loop-d-init c = record {
  len = c.requires.len;
  next = c.requires.bases ∙ sym (faces_start (run_in c.args.self.now));
  bases = rw c.requires.bases at c.requires.left;
  records = λ j l. absurd (omega arith);
}

pub loop-d-preserved : goal.loop-d-preserved
loop-d-preserved c =
    rw (
      c.number_gone-next-in-loop-d.ensures.faces,
      c.number_gone-next-in-loop-d.ensures.next,
      c.number_gone-next.ensures.faces,
      c.number_gone-next.ensures.next,
    )
    (dropped_more c.requires.run.merging c.loop-d.invariant c.step-collapse.ensures.value
    c.loop-d-test.true)

pub returns : goal.returns
returns c =
    let end : c.loop-d.d ≡ length c.args.self.now.log.now = omega arith in
    faces_all c.requires.run.merging (rw end at c.loop-d.invariant)
