use Rattle.std.proofs.Common.{◌≡◌, subst, arith}
use Rattle.pm_base.specs.Sides.{Net, net_of, side_count}
use Rattle.pm_turn.specs.Unions.{AreTables, elders_of}
use Rattle.pm_turn.proofs.Flags.{flagged_more, flagged_turn}
use Rattle.pm_turn.proofs.turning.flags.Goals as goal

pub loop-face-preserved : goal.loop-face-preserved
loop-face-preserved c =
    let m : Net = net_of c.args.faces.now in
    let inv = c.loop-face.invariant in
    let old = c.loop-face.p in
    let p = c.is_turned.new.p in
    let s = elders_of old.elders.items old.parities.items old.odd.items in
    let t = elders_of p.elders.items p.parities.items p.odd.items in
    record {
      tables = subst (λ n. AreTables n p.elders.items p.parities.items p.odd.items)
          inv.tables.elders_long c.is_turned.ensures.tables;
      all = c.is_turned.ensures.shorter.stay m (side_count m) inv.all;
      flagged = flagged_more s t c.loop-face.face c.loop-face.flags.items c.push.new.self.items
          c.is_turned.result c.is_turned.ensures.shorter inv.all.below inv.flagged
          c.is_turned.ensures.flag c.in_ok-push.ensures.items;
    }

pub returns : goal.returns
returns c =
    let m : Net = net_of c.args.faces.now in
    let inv = c.loop-face.invariant in
    let p = c.loop-face.p in
    let t = elders_of p.elders.items p.parities.items p.odd.items in
    let end : c.loop-face.face ≡ m.faces =
    omega (arith, c.loop-face-test.false, c.loop-face.auto.face-end) in
    flagged_turn m t c.loop-face.face c.loop-face.flags.items inv.all end inv.flagged
