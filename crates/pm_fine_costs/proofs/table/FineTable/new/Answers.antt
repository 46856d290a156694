use Rattle.std.proofs.Common.{◌∙◌, ap, arith}
use Rattle.pm_fine_costs.specs.declared.pair.BothQuadrics.{BothQuadrics}
use Rattle.pm_fine_costs.specs.FineCosts.{no_quadrics}
use Rattle.pm_fine_costs.proofs.FineLaws.{goes_first}
use Rattle.pm_fine_costs.proofs.table.FineTable.new.Goals as goal

pub returns : goal.returns
returns c = λ kept.
    let made = c.in_ok-vertices.ensures in
    let points = c.in_ok-quadrics.ensures in
    goes_first kept c.args.surface.now c.in_ok-vertices.vertices
    (omega (arith, made.len, c.len-room.ensures, points.len))
    (λ v l. made.slots v (omega (arith, l, points.len)))
    (λ v l. ap (λ (q : BothQuadrics). q.brought) (made.items v no_quadrics
    (omega (arith, l, points.len)))
    ∙ points.brought v l)
    (λ v l. ap (λ (q : BothQuadrics). q.all) (made.items v no_quadrics
    (omega (arith, l, points.len)))
    ∙ points.all v l)
