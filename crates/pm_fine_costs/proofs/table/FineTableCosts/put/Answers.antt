use Rattle.std.proofs.Common.{◌∙◌, sym, ap}
use Rattle.pm_policies.specs.Policies.{Policy}
use Rattle.pm_fine_costs.proofs.table.FineTableCosts.put.Goals as goal

pub returns : goal.returns
returns c = λ p m log after goes.
    c.volume_place.ensures
    ∙ sym (ap (λ (r : Policy). r.put c.args.shrink.now.surface c.args.a c.args.b c.args.place)
    goes.policy)
