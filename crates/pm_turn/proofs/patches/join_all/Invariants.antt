use Rattle.std.proofs.Common.{length}
use Rattle.pm_base.specs.Sides.{net_of}
use Rattle.pm_turn.specs.Unions.{AreTables, AreElders, elders_of}
use Rattle.pm_turn.proofs.patches.join_all.Given as goal

abbrev pub invariant-loop-number : goal.invariant-loop-number
invariant-loop-number l =
    AreTables (length l.faces) l.p.elders.items l.p.parities.items l.p.odd.items
    × AreElders (net_of l.faces) l.number
    (elders_of l.p.elders.items l.p.parities.items l.p.odd.items)
