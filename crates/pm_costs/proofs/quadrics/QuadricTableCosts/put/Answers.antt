use Rattle.std.proofs.Common.{sym, ap}
use Rattle.pm_policies.specs.Policies.{Policy}
use Rattle.pm_costs.proofs.quadrics.QuadricTableCosts.put.Goals as goal

pub returns : goal.returns
returns c = λ p m log after goes.
    sym (ap (λ (r : Policy). r.put c.args.shrink.now.surface c.args.a c.args.b c.args.place)
    goes.policy)
