use Rattle.std.proofs.Common.{◌≡◌, ◌∙◌, ℕ, ◌<◌, List, length, get_or, sym, ap, arith}
use Rattle.std.proofs.lemmas.List.{get_or_read}
use Rattle.std.proofs.lemmas.List.Elements.{All-get_or}
use Rattle.pm_quadric.specs.Sums.{Sums, plus_sums, zero_sums}
use Rattle.pm_costs.specs.Slots.{Quadrics}
use Rattle.pm_costs.proofs.SlotTables.{by_vertex-new, by_vertex-other}
use Rattle.pm_costs.proofs.quadrics.QuadricTable.merge.Goals as goal

pub returns-clause-sum : goal.returns-clause-sum
returns-clause-sum c =
    let slots : List ℕ = c.self.inside.slots.items in
    let quadrics : List Sums = c.self.inside.quadrics.items in
    let len = ap (λ (t : Quadrics). length t.slots) c.self.view_is in
    let low : c.args.a < length slots = omega (arith, c.requires.a_in, len) in
    let slot : c.index-slot.result.now ≡ get_or slots c.args.a 0 =
    get_or_read slots c.args.a c.index-slot.result.now low c.index-slot.ensures 0 in
    let within = All-get_or (λ k. k < length quadrics) slots c.args.a 0 low c.self.invariant in
    by_vertex-new slots quadrics c.index-slot.result.now c.args.s c.plus-sum.result
    (omega (arith, c.requires.s_in, len)) (omega (arith, slot, within))
    ∙ c.plus-sum.ensures.sums ∙ (λ i. plus_sums (c.get.ensures i) (c.get-2.ensures i))

pub returns-clause-others : goal.returns-clause-others
returns-clause-others c = λ v off apart.
    let slots : List ℕ = c.self.inside.slots.items in
    let quadrics : List Sums = c.self.inside.quadrics.items in
    let low : c.args.a < length slots =
    omega (arith, c.requires.a_in, ap (λ (t : Quadrics). length t.slots) c.self.view_is) in
    let slot : c.index-slot.result.now ≡ get_or slots c.args.a 0 =
    get_or_read slots c.args.a c.index-slot.result.now low c.index-slot.ensures 0 in
    let before : (x : ℕ) → get_or slots x 0 ≡ get_or c.args.self.now.slots x 0 =
    λ x. ap (λ (t : Quadrics). get_or t.slots x 0) c.self.view_is in
    by_vertex-other slots quadrics c.index-slot.result.now c.args.s c.plus-sum.result v off
    (λ is. apart (sym (before v) ∙ is ∙ slot ∙ before c.args.a))
    ∙ ap (λ (t : Quadrics). get_or t.quadrics v zero_sums) c.self.view_is
