use Rattle.std.proofs.Common.{◌≡◌, ◌∙◌, subst, arith}
use Rattle.pm_base.specs.Sides.{Net, net_of, side_count}
use Rattle.pm_turn.specs.Unions.{AreTables, elders_of}
use Rattle.pm_turn.proofs.Rooting.{rooted_more, rooted_traced}
use Rattle.pm_turn.proofs.choice.all_roots.Goals as goal

pub loop-face-preserved : goal.loop-face-preserved
loop-face-preserved c =
    let m : Net = net_of c.args.faces.now in
    let inv = c.loop-face.invariant in
    let old = c.loop-face.p in
    let p = c.root_of.new.p in
    let s = elders_of old.elders.items old.parities.items old.odd.items in
    let t = elders_of p.elders.items p.parities.items p.odd.items in
    record {
      tables = subst (λ n. AreTables n p.elders.items p.parities.items p.odd.items)
          inv.tables.elders_long c.root_of.ensures.tables;
      all = c.root_of.ensures.shorter.stay m (side_count m) inv.all;
      rooted = rooted_more s t c.loop-face.face c.loop-face.roots.items c.push.new.self.items
          c.root_of.result c.root_of.ensures.shorter inv.all.below inv.rooted c.root_of.ensures.root
          c.in_ok-push.ensures.items;
    }

pub returns-clause-odd : goal.returns-clause-odd
returns-clause-odd c = c.loop-face.invariant.tables.odd_long

pub returns-clause-long : goal.returns-clause-long
returns-clause-long c =
    let m : Net = net_of c.args.faces.now in
    let end : c.loop-face.face ≡ m.faces =
    omega (arith, c.loop-face-test.false, c.loop-face.auto.face-end) in
    c.loop-face.invariant.rooted.long ∙ end

pub returns-clause-traced : goal.returns-clause-traced
returns-clause-traced c =
    let m : Net = net_of c.args.faces.now in
    let inv = c.loop-face.invariant in
    let p = c.loop-face.p in
    let t = elders_of p.elders.items p.parities.items p.odd.items in
    let end : c.loop-face.face ≡ m.faces =
    omega (arith, c.loop-face-test.false, c.loop-face.auto.face-end) in
    rooted_traced m t c.loop-face.face c.loop-face.roots.items inv.all end inv.rooted
