use Rattle.std.proofs.Common.{◌≡◌, ◌<◌, ◌∙◌, None, length, ap, arith}
use Rattle.std.proofs.lemmas.List.{length-replicate}
use Rattle.pm_base.specs.declared.limits.TheConstants.{MOST_SIDES}
use Rattle.pm_base.specs.Sides.{Net, net_of, side_count}
use Rattle.pm_fans.proofs.GlueLaws.{none_glued, glued_more, all_glued, glued_low}
use Rattle.pm_fans.proofs.glue.glued_sides.Goals as goal

pub loop-number-init : goal.loop-number-init
loop-number-init c = none_glued (net_of c.args.faces.now) c.in_ok-glued.glued c.in_ok-glued.ensures

pub set-requires-clause-small : goal.set-requires-clause-small
set-requires-clause-small c =
    glued_low (net_of c.args.faces.now) c.loop-number.number MOST_SIDES c.glued_to.result
    (omega (arith, c.requires.short)) c.glued_to.ensures

pub loop-number-preserved : goal.loop-number-preserved
loop-number-preserved c =
    let m : Net = net_of c.args.faces.now in
    let all = ap length c.in_ok-glued.ensures ∙ length-replicate (side_count m) None in
    let low : c.loop-number.number < side_count m =
    omega (arith, c.loop-number-test.true, all, c.len-number-end.ensures.value) in
    glued_more m c.loop-number.number c.loop-number.glued c.set.new.self c.glued_to.result low
    c.loop-number.invariant c.set.ensures c.glued_to.ensures

pub returns : goal.returns
returns c =
    let m : Net = net_of c.args.faces.now in
    let all = ap length c.in_ok-glued.ensures ∙ length-replicate (side_count m) None in
    let end : c.loop-number.number ≡ side_count m =
    omega (
      arith,
      c.loop-number-test.false,
      c.loop-number.auto.number-end,
      all,
      c.len-number-end.ensures.value,
    ) in
    all_glued m c.loop-number.number c.loop-number.glued end c.loop-number.invariant
