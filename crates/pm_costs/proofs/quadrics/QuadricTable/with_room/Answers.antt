use Rattle.std.proofs.Common.{◌∙◌, ℕ, List, get_or, ap, arith}
use Rattle.pm_quadric.specs.Sums.{Sums, zero_sums}
use Rattle.pm_costs.proofs.SlotTables.{by_vertex-at}
use Rattle.pm_costs.proofs.quadrics.QuadricTable.with_room.Goals as goal

pub returns-clause-quadrics : goal.returns-clause-quadrics
returns-clause-quadrics c = λ v l.
    let slots : List ℕ = c.in_ok-slots.slots.items in
    let quadrics : List Sums = c.in_ok-quadrics.quadrics.items in
    by_vertex-at slots quadrics v (omega (arith, l, c.requires.least, c.in_ok-slots.ensures.len))
    ∙ ap (λ (k : ℕ). get_or quadrics k zero_sums) (c.in_ok-slots.ensures.each v l)
    ∙ c.in_ok-quadrics.ensures.each v l
