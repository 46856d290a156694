use Rattle.std.proofs.Common.{arith}
use Rattle.pm_queue.proofs.EntryTables.{empty_at_none}
use Rattle.pm_queue.proofs.LeastAtRoot.{least_at_root}
use Rattle.pm_queue.proofs.queue.Queue.least.Goals as goal

pub returns-then-count-eq0-clause-none : goal.returns-then-count-eq0-clause-none
returns-then-count-eq0-clause-none c =
    rw (← c.self.view_is) (empty_at_none c.self.inside.parts.heap.keys _
    (omega (arith, c.count.ensures, c.if-count-eq0.true)))

pub returns-clause-some : goal.returns-clause-some
returns-clause-some c =
    rw (← c.self.view_is, c.first.ensures) (least_at_root c.self.inside.parts c.self.invariant
    (omega (arith, c.count.ensures, c.if-count-eq0.false)))
