use Rattle.std.proofs.Common.{sym}
use Rattle.pm_pack.specs.Packed.{slots, at_first}
use Rattle.pm_pack.proofs.EndLaws.{short-cut}
use Rattle.pm_pack.proofs.reading.unpack_code.Goals as goal

pub returns-in-Ok-clause-fail : goal.returns-in-Ok-clause-fail
returns-in-Ok-clause-fail c = c.unpack_by.ensures.fail c.args.code.now (sym c.in-Ok.ensures.ok)

pub returns-in-Err-clause-fail : goal.returns-in-Err-clause-fail
returns-in-Err-clause-fail c = short-cut slots at_first c.args.code.now c.in-Err.ensures.cut
