use Rattle.std.proofs.Common.{Bool, List, sym, ap, subst, ◌∙◌, arith}
use Rattle.pm_base.specs.Counts.{set_of}
use Rattle.pm_forest.specs.Forest.{Hierarchy, record_count, splitter_of}
use Rattle.pm_refine.specs.Aims.{aim_of}
use Rattle.pm_refine.specs.Holding.{Joins, leads_to}
use Rattle.pm_forest.proofs.Nodes.{splitter_of-splits}
use Rattle.pm_refine.proofs.FindingLaws.{looked_wanted, looked_unwanted}
use Rattle.pm_refine.proofs.finding.look.Goals as goal

pub wants-requires-clause-node : goal.wants-requires-clause-node
wants-requires-clause-node g c =
    let is = ap (λ (x : Hierarchy). splitter_of x c.args.node.0) (sym c.hierarchy-h.ensures)
    ∙ sym c.splitter.ensures.value ∙ c.in-Some.is in
    sym (splitter_of-splits c.args.sight.now.front.now.h c.in-Some.k c.args.node.0 is).0

pub returns-then-wants-clause-joined : goal.returns-then-wants-clause-joined
returns-then-wants-clause-joined g c =
    let aim = aim_of c.args.sight.now in
    let is = ap (λ (x : Hierarchy). splitter_of x c.args.node.0) (sym c.hierarchy-h.ensures)
    ∙ sym c.splitter.ensures.value ∙ c.in-Some.is in
    let v = c.args.node.0 in
    let k = c.in-Some.k in
    let splits = c.args.splits.now in
    subst (λ (new : List Bool). Joins (set_of splits) (set_of new) (leads_to aim.h aim.wanted v))
    (sym c.insert.ensures)
    (looked_wanted aim.h aim.wanted v k is splits
    (omega (
      arith,
      c.in-Some.ensures.below,
      ap record_count c.hierarchy-h.ensures,
      c.requires.splits,
    )) (sym c.wants.ensures.value ∙ c.if-wants.true))

pub returns-else-wants-clause-joined : goal.returns-else-wants-clause-joined
returns-else-wants-clause-joined g c =
    let aim = aim_of c.args.sight.now in
    let is = ap (λ (x : Hierarchy). splitter_of x c.args.node.0) (sym c.hierarchy-h.ensures)
    ∙ sym c.splitter.ensures.value ∙ c.in-Some.is in
    looked_unwanted aim.h aim.wanted c.args.node.0 c.in-Some.k is c.args.splits.now
    (sym c.wants.ensures.value ∙ c.if-wants.false)
