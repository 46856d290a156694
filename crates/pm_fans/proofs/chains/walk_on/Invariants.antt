use Rattle.std.specs.Option.{option_map}
use Rattle.pm_fans.proofs.ChainLaws.{bare_count}
use Rattle.pm_fans.proofs.OpenWalks.{WalksOn}
use Rattle.pm_fans.proofs.chains.walk_on.Given as goal

abbrev pub invariant-loop-reached : goal.invariant-loop-reached
invariant-loop-reached l =
    WalksOn l.glued l.fn.heads l.heads l.fn.first.0 (option_map (λ s. s.0) l.reached)

abbrev pub decreases-loop-reached : goal.decreases-loop-reached
decreases-loop-reached l = bare_count l.heads
