use Rattle.std.proofs.Common.{arith}
use Rattle.pm_prefix.proofs.TableLaws.{begun_by_flags}
use Rattle.pm_prefix.proofs.begun.begun_before.Goals as goal

pub set_before-requires : goal.set_before-requires
set_before-requires c = omega (arith, c.deref.ensures.len, c.in_ok-flags.ensures.few)

pub returns-clause-each : goal.returns-clause-each
returns-clause-each c =
    begun_by_flags (λ t. t.items) c.set_before.result c.args.forest.now.h c.args.n
    c.deref.ensures.value c.in_ok-flags.ensures.len c.in_ok-flags.ensures.each
    c.set_before.ensures.each
