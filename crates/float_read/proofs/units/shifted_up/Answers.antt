use Rattle.float_read.proofs.UnitLaws.{past_up}
use Rattle.float_read.proofs.units.shifted_up.Goals as goal

pub returns-then-n-up-clause-none : goal.returns-then-n-up-clause-none
returns-then-n-up-clause-none c =
    past_up c.args.n c.args.up c.min-up.result c.min-up.ensures c.if-n-up.true
