use Rattle.pm_base.specs.Place.{origin}
use Rattle.pm_bounds.specs.declared.balls.Ball.{Ball}
use Rattle.pm_bounds.proofs.NodeTables.{read_at}
use Rattle.pm_bounds.proofs.balls.node_ball.Goals as goal

pub returns-clause-place : goal.returns-clause-place
returns-clause-place c =
    read_at (λ (b : Ball). b.place) c.args.balls.now c.args.node.0 _ origin c.requires
    c.index-balls-node.is

pub returns-clause-error : goal.returns-clause-error
returns-clause-error c =
    read_at (λ (b : Ball). b.error) c.args.balls.now c.args.node.0 _ 0 c.requires
    c.index-balls-node.is

pub returns-clause-radius : goal.returns-clause-radius
returns-clause-radius c =
    read_at (λ (b : Ball). b.radius) c.args.balls.now c.args.node.0 _ 0 c.requires
    c.index-balls-node.is
