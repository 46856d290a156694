use Rattle.std.proofs.Common.{rules, ◌≡◌, replicate, true, sym, subst, ◌∙◌, ap}
use Rattle.pm_forest.specs.Forest.{Hierarchy, record_count}
use Rattle.pm_sides.specs.Lowering.{IsLowering}
use Rattle.pm_sides.proofs.LoweringLaws.{lowering-begins}
use Rattle.pm_sides.proofs.lowering.Lowering.full.Goals as goal

pub invariant_of-result : goal.invariant_of-result
invariant_of-result c =
    let h = c.args.h in
    let flags = c.in_ok-split.split.items in
    let table = c.full-table.result in
    let all_set : flags ≡ replicate c.records-left.result true = search rules in
    let all : flags ≡ replicate (record_count h) true =
    all_set ∙ ap (λ n. replicate n true) c.records-left.ensures.value in
    let begins =
    lowering-begins h c.invariant.ensures c.requires.once flags table all
    c.full-table.ensures in
    subst (λ (g : Hierarchy). IsLowering g flags table c.records-left.result)
    (sym (c.in_ok-indexed.ensures {u = tt}))
    (subst (IsLowering h flags table) (sym c.records-left.ensures.value) begins)
