use Rattle.pm_fans.proofs.ChainLaws.{bare_count}
use Rattle.pm_fans.proofs.ClosedWalks.{WalksBack}
use Rattle.pm_fans.proofs.chains.walk_back.Given as goal

abbrev pub invariant-loop-twin : goal.invariant-loop-twin
invariant-loop-twin l = WalksBack l.glued l.fn.heads l.heads l.fn.least.0 l.side.0

abbrev pub decreases-loop-twin : goal.decreases-loop-twin
decreases-loop-twin l = bare_count l.heads
