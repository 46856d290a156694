use Rattle.std.proofs.Common.{arith}
use Rattle.pm_forest.proofs.GrownLeaves.{leaves_cut}
use Rattle.pm_forest.proofs.growing.Growing.cut.Goals as goal

pub overflow_add-result : goal.overflow_add-result
overflow_add-result c =
    let cuts =
    leaves_cut c.self.invariant c.args.self.now c.self.view_is c.args.split.now
    c.index.result.now c.requires.coming c.requires.node c.index.ensures in
    omega (arith, cuts.few)

pub returns-clause-first : goal.returns-clause-first
returns-clause-first c =
    (leaves_cut c.self.invariant c.args.self.now c.self.view_is c.args.split.now
    c.index.result.now c.requires.coming c.requires.node c.index.ensures).first

pub returns-clause-second : goal.returns-clause-second
returns-clause-second c =
    (leaves_cut c.self.invariant c.args.self.now c.self.view_is c.args.split.now
    c.index.result.now c.requires.coming c.requires.node c.index.ensures).second
