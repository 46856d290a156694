use Rattle.std.proofs.Common.{None, get_or, length, ap, ◌∙◌, arith}
use Rattle.std.proofs.lemmas.List.{get_or-replicate, length-replicate}
use Rattle.pm_forest.specs.Forest.{node_count}
use Rattle.pm_deviation.proofs.HeadingTables.{seen_none, seen_more, seen_all}
use Rattle.pm_deviation.proofs.axis_spreads.see.Goals as goal

pub loop-i-init : goal.loop-i-init
loop-i-init c =
    let h = c.args.h.now in
    let missing = c.requires.missing in
    seen_none h c.invariant.ensures c.args.headings.now c.args.axis c.args.table.now.items
    (ap length missing ∙ length-replicate (node_count h) None)
    (λ v l. ap (λ t. get_or t v None) missing ∙ get_or-replicate (node_count h) v None None l)

pub loop-i-preserved : goal.loop-i-preserved
loop-i-preserved c =
    let h = c.args.h.now in
    let w = c.widen_leaves.ensures.wider in
    seen_more h c.invariant.ensures c.args.headings.now c.args.axis c.loop-i.i c.loop-i-test.true
    c.loop-i.table.items c.widen_leaves.new.table.items c.loop-i.invariant
    c.widen_leaves.ensures.len w

pub returns-clause-own : goal.returns-clause-own
returns-clause-own c =
    let h = c.args.h.now in
    seen_all h c.invariant.ensures c.args.headings.now c.args.axis c.loop-i.i c.loop-i.table.items
    (omega (arith, c.loop-i-test.false, c.loop-i.auto.i-end)) c.loop-i.invariant
