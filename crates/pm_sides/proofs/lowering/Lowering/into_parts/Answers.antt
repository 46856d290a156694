use Rattle.std.proofs.Common.{◌∙◌, replicate, false, ap, subst}
use Rattle.pm_forest.specs.Forest.{record_count}
use Rattle.pm_forest.specs.Fronts.{no_records}
use Rattle.pm_sides.specs.Stored.{AreStored}
use Rattle.pm_sides.specs.Lowering.{Lowered}
use Rattle.pm_sides.proofs.LoweringLaws.{lowered-flags, lowered-stored}
use Rattle.pm_sides.proofs.lowering.Lowering.into_parts.Goals as goal

pub returns-clause-flags : goal.returns-clause-flags
returns-clause-flags c =
    let i = c.self.inside in
    let none = ap (λ (o : Lowered). o.left) c.self.view_is ∙ c.requires in
    lowered-flags i.indexed i.split.items i.table i.left c.self.invariant none
    ∙ ap (λ (o : Lowered). replicate (record_count o.h) false) c.self.view_is

pub returns-clause-stored : goal.returns-clause-stored
returns-clause-stored c =
    let i = c.self.inside in
    let none = ap (λ (o : Lowered). o.left) c.self.view_is ∙ c.requires in
    subst (λ (o : Lowered). AreStored o.h no_records i.table) c.self.view_is
    (lowered-stored i.indexed i.split.items i.table i.left c.self.invariant none)
