use Rattle.std.proofs.Common.{◌≡◌, ◌<◌, ◌∙◌, None, length, ap, arith}
use Rattle.std.proofs.lemmas.List.{length-replicate}
use Rattle.pm_base.specs.declared.limits.TheConstants.{MOST_SIDES}
use Rattle.pm_base.specs.Sides.{Net, net_of, side_count}
use Rattle.pm_turn.proofs.MateLaws.{none_mated, mated_more, all_mated, mate_low}
use Rattle.pm_turn.proofs.edges.edge_mates.Goals as goal

pub loop-number-init : goal.loop-number-init
loop-number-init c = none_mated (net_of c.args.faces.now) c.in_ok-mates.mates c.in_ok-mates.ensures

pub set-requires-clause-small : goal.set-requires-clause-small
set-requires-clause-small c =
    mate_low (net_of c.args.faces.now) c.loop-number.number MOST_SIDES c.mate_of.result
    (omega (arith, c.requires.cuttable.short)) c.mate_of.ensures

pub loop-number-preserved : goal.loop-number-preserved
loop-number-preserved c =
    let m : Net = net_of c.args.faces.now in
    let all = ap length c.in_ok-mates.ensures ∙ length-replicate (side_count m) None in
    let low : c.loop-number.number < side_count m =
    omega (arith, c.loop-number-test.true, all, c.len-number-end.ensures.value) in
    mated_more m c.loop-number.number c.loop-number.mates c.set.new.self c.mate_of.result low
    c.loop-number.invariant c.set.ensures c.mate_of.ensures

pub returns : goal.returns
returns c =
    let m : Net = net_of c.args.faces.now in
    let all = ap length c.in_ok-mates.ensures ∙ length-replicate (side_count m) None in
    let end : c.loop-number.number ≡ side_count m =
    omega (
      arith,
      c.loop-number-test.false,
      c.loop-number.auto.number-end,
      all,
      c.len-number-end.ensures.value,
    ) in
    all_mated m c.loop-number.number c.loop-number.mates end c.loop-number.invariant
