use Rattle.std.proofs.Common.{[], arith}
use Rattle.pm_pack.proofs.JudgeLaws.{refused-fails, judged-ok, judged-fail}
use Rattle.pm_pack.proofs.writing.judge_by.Goals as goal

pub returns-in-Err-clause-fail : goal.returns-in-Err-clause-fail
returns-in-Err-clause-fail c =
    rw c.refused.ensures
    (refused-fails c.args.text.now c.in-Err.fault (c.in-Err.ensures.says [] c.requires.fresh))

pub judged-requires : goal.judged-requires
judged-requires c =
    omega (arith, c.in-Ok.ensures.most, c.in-Ok.ensures.counts, c.requires.none)

pub returns-in-Ok-clause-ok : goal.returns-in-Ok-clause-ok
returns-in-Ok-clause-ok c =
    judged-ok c.args.text.now c.in-Ok.fed c.judged.result
    (c.in-Ok.ensures.says [] c.requires.fresh) c.judged.ensures

pub returns-in-Ok-clause-fail : goal.returns-in-Ok-clause-fail
returns-in-Ok-clause-fail c =
    judged-fail c.args.text.now c.in-Ok.fed c.judged.result
    (c.in-Ok.ensures.says [] c.requires.fresh) c.in-Ok.ensures.all c.judged.ensures
