use Rattle.std.proofs.Common.{refl, codes}
use Rattle.pm_commands.specs.declared.fault.Fault.TheVariants as faults
use Rattle.pm_commands.specs.FaultText.{fault_text}
use Rattle.pm_viewer.proofs.CauseLaws.{tells_placed}
use Rattle.pm_viewer.proofs.fail.cause_of.Goals as goal

pub returns-in-BadNeighbour-clause-told : goal.returns-in-BadNeighbour-clause-told
unfolding fault_text
returns-in-BadNeighbour-clause-told c =
    tells_placed _ (faults.BadNeighbour c.in-BadNeighbour.record) _ _ 28 _ _ (codes "record")
    c.in-BadNeighbour.is c.placed.ensures.number c.placed.ensures.place c.from.ensures refl

pub returns-in-LeafEdgeTwice-clause-told : goal.returns-in-LeafEdgeTwice-clause-told
unfolding fault_text
returns-in-LeafEdgeTwice-clause-told c =
    tells_placed _ (faults.LeafEdgeTwice c.in-LeafEdgeTwice.face) _ _ 11 _ _ (codes "face")
    c.in-LeafEdgeTwice.is c.placed-in-LeafEdgeTwice.ensures.number
    c.placed-in-LeafEdgeTwice.ensures.place c.from-in-LeafEdgeTwice.ensures refl
