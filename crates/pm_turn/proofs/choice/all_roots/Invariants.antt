use Rattle.std.proofs.Common.{length}
use Rattle.pm_base.specs.Sides.{net_of, side_count}
use Rattle.pm_turn.specs.Unions.{AreElders, AreTables, elders_of}
use Rattle.pm_turn.specs.Sums.{AreRooted}
use Rattle.pm_turn.proofs.choice.all_roots.Given as goal

abbrev pub invariant-loop-face : goal.invariant-loop-face
invariant-loop-face l =
    let now = elders_of l.p.elders.items l.p.parities.items l.p.odd.items in
    record {
      tables : AreTables (length l.faces) l.p.elders.items l.p.parities.items l.p.odd.items;
      all : AreElders (net_of l.faces) (side_count (net_of l.faces)) now;
      rooted : AreRooted now l.face l.roots.items;
    }
