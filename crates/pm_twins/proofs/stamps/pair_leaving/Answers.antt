use Rattle.std.proofs.Common.{◌<◌, ◌∙◌, ap, subst, sym, arith, Option}
use Rattle.pm_base.specs.declared.ids.Side.{Side}
use Rattle.pm_base.specs.Sides.{Net, net_of, side_count}
use Rattle.pm_twins.specs.Stamping.{stamped}
use Rattle.pm_twins.proofs.ListLaws.{past, IsOn, walk_on, walk_low, link_next}
use Rattle.pm_twins.proofs.PairLaws.{IsPairing, pairing_begins, pairing_skips, pairing_more}
use Rattle.pm_twins.proofs.stamps.pair_leaving.Goals as goal

pub loop-at-init : goal.loop-at-init
loop-at-init c =
    let m : Net = net_of c.args.faces.now in
    record {
      on = walk_on m c.args.vertex (side_count m) c.args.last c.requires.last (omega arith);
      pairing = pairing_begins c.args.last c.requires.last c.requires.paired;
    }

pub loop-at-smaller : goal.loop-at-smaller
loop-at-smaller c =
    let m : Net = net_of c.args.faces.now in
    let v = c.args.vertex in
    let y = c.in-Some.side.0 in
    let (low, from) = subst (IsOn m v) c.in-Some.is c.loop-at.invariant.on in
    let pairing = subst (λ (o : Option Side). IsPairing m v (past o) c.loop-at.table)
    c.in-Some.is c.loop-at.invariant.pairing in
    let leads = link_next m v y c.loop-at.table c.get-at.result
    (pairing.left y low from (omega arith)) from c.get-at.ensures in
    let less = walk_low m v y c.get-at.result leads in
    subst (λ (o : Option Side). past c.get-at.result < past o) (sym c.in-Some.is)
    (omega (arith, less))

pub loop-at-preserved : goal.loop-at-preserved
loop-at-preserved c =
    let m : Net = net_of c.args.faces.now in
    let v = c.args.vertex in
    let y = c.in-Some.side.0 in
    let (low, from) = subst (IsOn m v) c.in-Some.is c.loop-at.invariant.on in
    let pairing = subst (λ (o : Option Side). IsPairing m v (past o) c.loop-at.table)
    c.in-Some.is c.loop-at.invariant.pairing in
    let leads = link_next m v y c.loop-at.table c.get-at.result
    (pairing.left y low from (omega arith)) from c.get-at.ensures in
    let looked = c.side.ensures ∙ ap (stamped c.args.stamps.now v) c.to.ensures in
    rw c.set.ensures
    (record {
      on = walk_on m v y c.get-at.result leads (omega (arith, low));
      pairing = pairing_skips c.get-at.result leads
          (pairing_more c.args.stamps.now pairing low from c.requires.all looked);
    })
