use Rattle.std.proofs.Common.{sym}
use Rattle.pm_pack.proofs.BeginningLaws.{short-early}
use Rattle.pm_pack.proofs.beginning.begin_code.Goals as goal

pub returns-in_default-clause-fail : goal.returns-in_default-clause-fail
returns-in_default-clause-fail c = short-early c.args.code.now c.in_default.ensures.cut

pub returns-in-Ok-at_first-clause-ok : goal.returns-in-Ok-at_first-clause-ok
returns-in-Ok-at_first-clause-ok c =
    c.begin_from.ensures.ok c.args.code.now (sym c.in-Ok.ensures.ok)

pub returns-in-Ok-at_first-clause-fail : goal.returns-in-Ok-at_first-clause-fail
returns-in-Ok-at_first-clause-fail c =
    c.begin_from.ensures.fail c.args.code.now (sym c.in-Ok.ensures.ok)
