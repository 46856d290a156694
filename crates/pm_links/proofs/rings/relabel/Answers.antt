use Rattle.std.proofs.Common.{◌<◌, ◌≤◌, length, arith}
use Rattle.pm_links.proofs.Walks.{walk_more, walk_stop, walk_end}
use Rattle.pm_links.proofs.rings.relabel.Goals as goal

pub returns-then-node-owner : goal.returns-then-node-owner
returns-then-node-owner c =
    let past : length c.args.owner.now ≤ c.loop.node = omega arith in
    rw (walk_stop _ _ _ c.loop.node past) at c.loop.invariant

pub loop-preserved : goal.loop-preserved
loop-preserved c =
    let more : c.loop.counter < length c.args.owner.now = omega arith in
    let inner : c.loop.node < length c.args.owner.now = omega arith in
    rw (walk_more _ _ c.loop.counter c.loop.node more inner) at c.loop.invariant

pub returns : goal.returns
returns c =
    let past : length c.args.owner.now ≤ c.loop.counter = omega arith in
    rw (walk_end _ _ c.loop.counter c.loop.node past) at c.loop.invariant
