use Rattle.std.proofs.Common.{◌+◌, ◌-◌, ◌/◌, sym, ◌∙◌, arith}
use Rattle.std.proofs.lemmas.Bool.{ltb-true, ltb-false}
use Rattle.pm_forest.specs.Forest.{record_count}
use Rattle.pm_forest.specs.Faces.{first_face}
use Rattle.pm_forest.proofs.FaceNumbers.{first_face-mono}
use Rattle.pm_change.proofs.FaceLaws.{first_low, first_high, halves}
use Rattle.pm_change.proofs.PartLaws.{faces_most}
use Rattle.pm_change.proofs.faces.first_face.Goals as goal

pub loop-low-init : goal.loop-low-init
loop-low-init g c =
    let h = c.args.h.now in
    let k = c.args.k in
    let below = c.requires in
    let low = first_low h k (omega arith) in
    let high = first_high h k in
    let up = first_face-mono h k (record_count h) (omega arith) in
    let most = faces_most h c.invariant.ensures in
    record {
      from = omega (
        arith,
        c.saturating_sub-low.ensures,
        c.faces.ensures.value,
        c.records.ensures.value,
      );
      until = omega (arith, c.min-high.ensures, c.faces-2.ensures.value, c.bases.ensures.value);
      there = omega (arith, c.min-high.ensures, c.faces-2.ensures.value);
      halved = (21, omega (arith, c.min-high.ensures, c.faces-2.ensures.value), omega arith);
    }

pub loop-low-preserved-then-comes_before : goal.loop-low-preserved-then-comes_before
loop-low-preserved-then-comes_before g c =
    let h = c.args.h.now in
    let i = c.loop-low.invariant in
    let (n, few, steps) = i.halved in
    let less = c.loop-low-test.true in
    let (m, is, low, high) = halves n c.loop-low.low c.loop-low.high less few in
    let before = ltb-true (c.loop-low.low + (c.loop-low.high - c.loop-low.low) / 2)
    (first_face h c.args.k) (sym c.comes_before.ensures ∙ c.if-comes_before.true) in
    let tick = c.tick.ensures in
    record {
      from = omega arith;
      until = i.until;
      there = i.there;
      halved = (m, low, omega arith);
    }

pub loop-low-preserved : goal.loop-low-preserved
loop-low-preserved g c =
    let h = c.args.h.now in
    let i = c.loop-low.invariant in
    let (n, few, steps) = i.halved in
    let less = c.loop-low-test.true in
    let (m, is, low, high) = halves n c.loop-low.low c.loop-low.high less few in
    let after = ltb-false (c.loop-low.low + (c.loop-low.high - c.loop-low.low) / 2)
    (first_face h c.args.k) (sym c.comes_before.ensures ∙ c.if-comes_before.false) in
    let tick = c.tick.ensures in
    let there = i.there in
    record {
      from = i.from;
      until = after;
      there = omega arith;
      halved = (m, high, omega arith);
    }
