use Rattle.pm_base.specs.Sides.{net_of}
use Rattle.pm_fans.specs.HeadKeys.{AreCollected}
use Rattle.pm_fans.proofs.numbers.head_keys.Given as goal

abbrev pub invariant-loop-number : goal.invariant-loop-number
invariant-loop-number l = AreCollected (net_of l.faces) l.glued l.heads l.number l.keys.items
