use Rattle.std.proofs.Common.{◌+◌, ◌*◌, sym, arith}
use Rattle.pm_base.specs.declared.limits.TheConstants.{MOST_SIDES}
use Rattle.pm_base.proofs.NetLaws.{first_side, second_side, third_side}
use Rattle.pm_twins.proofs.CornerLaws.{corners_within}
use Rattle.pm_twins.proofs.ListLaws.{list_next, last_low}
use Rattle.pm_twins.proofs.side_lists.list_sides.Goals as goal

pub put-requires : goal.put-requires
put-requires c =
    let f = c.loop-f.f in
    let (low, b, last) = corners_within c.args.faces.now c.requires.within f c.loop-f-test.true in
    let h = c.loop-f.invariant in
    record {
      vertex = omega (arith, low, h.vertices);
      side = omega (arith, c.loop-f-test.true, h.sides);
      small = last_low MOST_SIDES low (omega (arith, c.loop-f-test.true, c.requires.short)) h;
      few = omega (arith, c.loop-f-test.true, c.requires.short);
    }

pub put-requires-in-loop-f : goal.put-requires-in-loop-f
put-requires-in-loop-f c =
    let fs = c.args.faces.now in
    let f = c.loop-f.f in
    let (a, low, last) = corners_within fs c.requires.within f c.loop-f-test.true in
    let h = list_next (3 * f) (3 * f + 1) (omega arith) (sym (first_side fs f).0) a
    (omega (arith, c.loop-f-test.true)) c.put.ensures.links c.put.ensures.lasts c.loop-f.invariant
    in
    record {
      vertex = omega (arith, low, h.vertices);
      side = omega (arith, c.loop-f-test.true, h.sides);
      small = last_low MOST_SIDES low (omega (arith, c.loop-f-test.true, c.requires.short)) h;
      few = omega (arith, c.loop-f-test.true, c.requires.short);
    }

pub put-requires-in-loop-f-2 : goal.put-requires-in-loop-f-2
put-requires-in-loop-f-2 c =
    let fs = c.args.faces.now in
    let f = c.loop-f.f in
    let (a, b, low) = corners_within fs c.requires.within f c.loop-f-test.true in
    let one = list_next (3 * f) (3 * f + 1) (omega arith) (sym (first_side fs f).0) a
    (omega (arith, c.loop-f-test.true)) c.put.ensures.links c.put.ensures.lasts c.loop-f.invariant
    in
    let h = list_next (3 * f + 1) (3 * f + 2) (omega arith) (sym (second_side fs f).0) b
    (omega (arith, c.loop-f-test.true)) c.put-in-loop-f.ensures.links
    c.put-in-loop-f.ensures.lasts one in
    record {
      vertex = omega (arith, low, h.vertices);
      side = omega (arith, c.loop-f-test.true, h.sides);
      small = last_low MOST_SIDES low (omega (arith, c.loop-f-test.true, c.requires.short)) h;
      few = omega (arith, c.loop-f-test.true, c.requires.short);
    }

pub loop-f-preserved : goal.loop-f-preserved
loop-f-preserved c =
    let fs = c.args.faces.now in
    let f = c.loop-f.f in
    let (a, b, last) = corners_within fs c.requires.within f c.loop-f-test.true in
    let one = list_next (3 * f) (3 * f + 1) (omega arith) (sym (first_side fs f).0) a
    (omega (arith, c.loop-f-test.true)) c.put.ensures.links c.put.ensures.lasts c.loop-f.invariant
    in
    let two = list_next (3 * f + 1) (3 * f + 2) (omega arith) (sym (second_side fs f).0) b
    (omega (arith, c.loop-f-test.true)) c.put-in-loop-f.ensures.links
    c.put-in-loop-f.ensures.lasts one in
    list_next (3 * f + 2) (3 * (f + 1)) (omega arith) (sym (third_side fs f).0) last
    (omega (arith, c.loop-f-test.true)) c.put-in-loop-f-2.ensures.links
    c.put-in-loop-f-2.ensures.lasts two
