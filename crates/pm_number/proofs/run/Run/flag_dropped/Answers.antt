use Rattle.std.proofs.Common.{◌≡◌, ◌∙◌, length, arith}
use Rattle.pm_number.specs.Numbering.{dropped_by}
use Rattle.pm_number.specs.Tables.{run_in}
use Rattle.pm_number.proofs.LeftLaws.{dropped_more}
use Rattle.pm_number.proofs.run.Run.flag_dropped.Goals as goal

pub loop-i-preserved : goal.loop-i-preserved
loop-i-preserved c =
    let len = c.loop-i.invariant.len in
    let left = c.flag_gone.ensures in
    let right = c.flag_gone-in-loop-i.ensures in
    record {
      len = right.len ∙ left.len ∙ len;
      each = λ f l. rw (
        right.each f (omega (arith, left.len)),
        left.each f (omega arith),
        c.loop-i.invariant.each f l,
      ) (dropped_more (run_in c.args.self.now) c.loop-i.i c.entry-collapse.ensures.value f);
    }

pub returns-clause-each : goal.returns-clause-each
unfolding dropped_by
returns-clause-each c =
    let end : c.loop-i.i ≡ length c.args.self.now.log.now = omega arith in
    rw end at c.loop-i.invariant.each
