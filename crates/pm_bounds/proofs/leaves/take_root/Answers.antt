use Rattle.std.proofs.Common.{set, map, ap, ◌∙◌}
use Rattle.std.proofs.Math.Seq.{map-set_same}
use Rattle.std.proofs.lemmas.List.{map-set}
use Rattle.pm_bounds.specs.declared.balls.Ball.{Ball}
use Rattle.pm_bounds.proofs.NodeTables.{radii_set}
use Rattle.pm_bounds.proofs.leaves.take_root.Goals as goal

pub returns-clause-places : goal.returns-clause-places
returns-clause-places c =
    let place = λ (b : Ball). b.place in
    map-set_same place c.args.balls.now.items c.args.node.0 _ c.index_mut.result.now
    (ap place c.index_mut.ensures.value)

pub returns-clause-errors : goal.returns-clause-errors
returns-clause-errors c =
    let error = λ (b : Ball). b.error in
    map-set_same error c.args.balls.now.items c.args.node.0 _ c.index_mut.result.now
    (ap error c.index_mut.ensures.value)

pub returns-clause-radii : goal.returns-clause-radii
returns-clause-radii c =
    let balls = c.args.balls.now.items in
    let radius = λ (b : Ball). b.radius in
    map-set radius balls c.args.node.0 _
    ∙ ap (set (map radius balls) c.args.node.0) c.root_up.ensures.value

pub returns-clause-small : goal.returns-clause-small
returns-clause-small c =
    radii_set 113509 c.args.balls.now.items c.args.node.0 _ c.requires.node c.requires.small
    c.root_up.ensures.small
