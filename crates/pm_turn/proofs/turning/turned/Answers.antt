use Rattle.std.proofs.Common.{arith}
use Rattle.pm_turn.specs.Turning.{turned_by}
use Rattle.pm_turn.proofs.TurnMore.{turned_more, turned_all}
use Rattle.pm_turn.proofs.turning.turned.Goals as goal

pub loop-at-preserved : goal.loop-at-preserved
loop-at-preserved c =
    let flags = c.args.flags.now in
    let fs = c.args.faces.now in
    turned_more flags fs c.loop-at.all.items c.push.new.self.items (turned_by flags fs) c.loop-at.at
    c.turned_if.result
    (omega (arith, c.loop-at-test.true, c.loop-at.auto.at-end)) c.requires c.turned_if.ensures
    c.in_ok-push.ensures.items c.loop-at.invariant

pub returns : goal.returns
returns c =
    let flags = c.args.flags.now in
    let fs = c.args.faces.now in
    turned_all flags fs c.loop-at.all.items (turned_by flags fs) c.loop-at.at
    (omega (arith, c.loop-at-test.false, c.loop-at.auto.at-end)) c.loop-at.invariant
