use Rattle.std.proofs.Common.{◌≡◌, sym, ap, ◌∙◌, subst, arith}
use Rattle.pm_base.specs.Counts.{count}
use Rattle.pm_base.specs.Sides.{Net, net_of, side_count}
use Rattle.pm_turn.specs.Edges.{AreEdges, comes_third}
use Rattle.pm_turn.proofs.Summing.{counted_more, counted_low}
use Rattle.pm_turn.proofs.Thirds.{crowded_by_keys}
use Rattle.pm_turn.proofs.edges.note_edges.Goals as goal

pub plus-crowded-requires : goal.plus-crowded-requires
plus-crowded-requires c =
    let low = counted_low (comes_third (net_of c.args.faces.now)) c.loop-number.number
    c.loop-number.crowded c.loop-number.invariant.crowded in
    omega (arith, low, c.loop-number-test.true, c.loop-number.auto.number-end, c.requires.short)

pub loop-number-preserved : goal.loop-number-preserved
loop-number-preserved c = record {
  noted = c.in_ok-third.ensures.noted;
  crowded = counted_more (comes_third (net_of c.args.faces.now)) c.loop-number.number
      c.loop-number.crowded c.plus-crowded.result c.in_ok-third.third
      c.loop-number.invariant.crowded (sym c.in_ok-third.ensures.third) c.plus-crowded.ensures;
}

pub returns-clause-noted : goal.returns-clause-noted
returns-clause-noted c =
    let m : Net = net_of c.args.faces.now in
    let end : c.loop-number.number ≡ side_count m =
    omega (arith, c.loop-number-test.false, c.loop-number.auto.number-end) in
    subst (λ n. AreEdges m n c.loop-number.sides) end c.loop-number.invariant.noted

pub returns-clause-crowded : goal.returns-clause-crowded
returns-clause-crowded c =
    let m : Net = net_of c.args.faces.now in
    let end : c.loop-number.number ≡ side_count m =
    omega (arith, c.loop-number-test.false, c.loop-number.auto.number-end) in
    c.loop-number.invariant.crowded ∙ ap (count (comes_third m)) end ∙ crowded_by_keys m c.requires
