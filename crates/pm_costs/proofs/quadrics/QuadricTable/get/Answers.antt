use Rattle.std.proofs.Common.{◌≡◌, ◌∙◌, ℕ, ◌<◌, List, length, get_or, sym, ap, arith}
use Rattle.std.proofs.lemmas.List.{get_or_read}
use Rattle.std.proofs.lemmas.List.Elements.{All-get_or}
use Rattle.pm_quadric.specs.Sums.{Sums, zero_sums}
use Rattle.pm_costs.specs.Slots.{Quadrics}
use Rattle.pm_costs.proofs.SlotTables.{by_vertex-at}
use Rattle.pm_costs.proofs.quadrics.QuadricTable.get.Goals as goal

pub returns : goal.returns
returns c =
    let slots : List ℕ = c.self.inside.slots.items in
    let quadrics : List Sums = c.self.inside.quadrics.items in
    let low : c.args.v < length slots =
    omega (arith, c.requires, ap (λ (t : Quadrics). length t.slots) c.self.view_is) in
    let slot : c.index.result.now ≡ get_or slots c.args.v 0 =
    get_or_read slots c.args.v c.index.result.now low c.index.ensures 0 in
    let within = All-get_or (λ k. k < length quadrics) slots c.args.v 0 low c.self.invariant in
    get_or_read quadrics c.index.result.now c.index-2.result.now (omega (arith, slot, within))
    c.index-2.ensures zero_sums
    ∙ ap (λ (k : ℕ). get_or quadrics k zero_sums) slot
    ∙ sym (by_vertex-at slots quadrics c.args.v low)
    ∙ ap (λ (t : Quadrics). get_or t.quadrics c.args.v zero_sums) c.self.view_is
