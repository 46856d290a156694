use Rattle.std.proofs.Common.{◌<◌, ◌∙◌, refl, subst, sym, arith, Option}
use Rattle.std.proofs.lemmas.List.{length-set}
use Rattle.pm_base.specs.declared.ids.Side.{Side}
use Rattle.pm_base.specs.Sides.{Net, net_of, side_count}
use Rattle.pm_twins.proofs.Whole.{third_within}
use Rattle.pm_twins.proofs.ListLaws.{past, IsOn, walk_on, walk_low, link_next}
use Rattle.pm_twins.proofs.StampLaws.{IsStamping, stamping_begins, stamping_skips, stamping_more}
use Rattle.pm_twins.proofs.StampLaws.{least_more, all_stamped}
use Rattle.pm_twins.proofs.stamps.stamp_arriving.Goals as goal

pub loop-at-init : goal.loop-at-init
loop-at-init c =
    let m : Net = net_of c.args.faces.now in
    let few : c.args.vertex < 4294967295 =
    omega (arith, c.requires.in_range, c.requires.whole.few) in
    record {
      len = refl;
      on = walk_on m c.args.vertex (side_count m) c.args.last c.requires.last (omega arith);
      stamping = stamping_begins c.args.last c.requires.last few c.requires.none c.requires.repeat;
    }

pub third-requires : goal.third-requires
third-requires c =
    (subst (IsOn (net_of c.args.faces.now) c.args.vertex) c.in-Some.is
    c.loop-at.invariant.on).0

pub prev-requires : goal.prev-requires
prev-requires c =
    let on = subst (IsOn (net_of c.args.faces.now) c.args.vertex) c.in-Some.is
    c.loop-at.invariant.on in
    omega (arith, on.0, c.requires.whole.short)

pub add-requires : goal.add-requires
add-requires c =
    let m : Net = net_of c.args.faces.now in
    let on = subst (IsOn m c.args.vertex) c.in-Some.is c.loop-at.invariant.on in
    let low = third_within m _ c.requires.whole c.in-Some.side.0 on.0 in
    omega (arith, low, c.third.ensures, c.loop-at.invariant.len)

pub get-at-requires : goal.get-at-requires
get-at-requires c =
    let on = subst (IsOn (net_of c.args.faces.now) c.args.vertex) c.in-Some.is
    c.loop-at.invariant.on in
    omega (arith, on.0, c.requires.paired.sides)

pub loop-at-smaller : goal.loop-at-smaller
loop-at-smaller c =
    let m : Net = net_of c.args.faces.now in
    let (low, from) = subst (IsOn m c.args.vertex) c.in-Some.is c.loop-at.invariant.on in
    let v = c.args.vertex in
    let y = c.in-Some.side.0 in
    let leads = link_next m v y c.args.table.now c.get-at.result
    (c.requires.paired.others y low (omega (arith, from))) from c.get-at.ensures in
    let less = walk_low m v y c.get-at.result leads in
    subst (λ (o : Option Side). past c.get-at.result < past o) (sym c.in-Some.is)
    (omega (arith, less))

pub loop-at-preserved : goal.loop-at-preserved
loop-at-preserved c =
    let m : Net = net_of c.args.faces.now in
    let v = c.args.vertex in
    let y = c.in-Some.side.0 in
    let i = c.loop-at.invariant in
    let (low, from) = subst (IsOn m v) c.in-Some.is i.on in
    let leads = link_next m v y c.args.table.now c.get-at.result
    (c.requires.paired.others y low (omega (arith, from))) from c.get-at.ensures in
    let starts = third_within m _ c.requires.whole y low in
    let stamping = subst (λ (o : Option Side). IsStamping m v (past o) c.loop-at.stamps)
    c.in-Some.is i.stamping in
    rw c.add.ensures
    (record {
      len = length-set c.loop-at.stamps.at _ _ ∙ i.len;
      on = walk_on m v y c.get-at.result leads (omega (arith, low));
      stamping = stamping_skips c.get-at.result leads
          (stamping_more stamping low from c.prev.ensures.value c.third.ensures
          (omega (arith, c.third.ensures, starts, i.len)));
    })

pub returns : goal.returns
returns c =
    let m : Net = net_of c.args.faces.now in
    let v = c.args.vertex in
    let stamps = c.loop-at.stamps in
    let stamping = subst (λ (o : Option Side). IsStamping m v (past o) stamps) c.in_default.is
    c.loop-at.invariant.stamping in
    record {
      len = c.loop-at.invariant.len;
      none = stamping.none;
      all = all_stamped m v stamps stamping;
      repeat = least_more m v stamps stamping;
    }
