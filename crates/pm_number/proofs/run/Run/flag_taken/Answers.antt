use Rattle.std.proofs.Common.{◌≡◌, ◌∙◌, length, arith}
use Rattle.std.proofs.Math.ListN.{set}
use Rattle.std.proofs.lemmas.List.{length-set}
use Rattle.pm_number.specs.Numbering.{taken_by}
use Rattle.pm_number.specs.Tables.{run_in}
use Rattle.pm_number.proofs.LeftLaws.{taken_more}
use Rattle.pm_number.proofs.run.Run.flag_taken.Goals as goal

pub loop-i-preserved : goal.loop-i-preserved
loop-i-preserved c =
    let flags = c.loop-i.flags.items in
    let x = c.entry-collapse.result.now in
    let e = c.entry-collapse.ensures in
    let len = c.loop-i.invariant.len in
    record {
      len = length-set (set flags x.t _) x.u _ ∙ length-set flags x.t _ ∙ len;
      each = λ v l. taken_more (run_in c.args.self.now) c.loop-i.i flags e.value
          (omega (arith, e.first)) (omega (arith, e.second)) v (c.loop-i.invariant.each v l);
    }

pub returns-clause-each : goal.returns-clause-each
unfolding taken_by
returns-clause-each c =
    let end : c.loop-i.i ≡ length c.args.self.now.log.now = omega arith in
    rw end at c.loop-i.invariant.each
