use Rattle.std.proofs.Common.{◌≡◌, [], ◌∷◌, ◌++◌, rules}
use Rattle.pm_deviation.proofs.FarthestLaws.{rungs_none, rungs_more}
use Rattle.pm_deviation.proofs.farthest.rungs.Goals as goal

pub loop-node-init : goal.loop-node-init
loop-node-init c = rungs_none c.args.h.now _ (search rules)

pub loop-node-preserved : goal.loop-node-preserved
loop-node-preserved c =
    let r = c.rung_at.result in
    let items : c.push.new.self.items ≡ c.loop-node.rungs.items ++ r ∷ [] = search rules in
    rungs_more c.args.h.now c.loop-node.node c.loop-node.rungs.items c.push.new.self.items r
    c.loop-node.invariant items c.rung_at.ensures
