use Rattle.pm_fans.specs.Heads.{AreOpenHeaded}
use Rattle.pm_fans.proofs.chains.open_heads.Given as goal

abbrev pub invariant-loop-number : goal.invariant-loop-number
invariant-loop-number l = AreOpenHeaded l.glued l.heads l.number
