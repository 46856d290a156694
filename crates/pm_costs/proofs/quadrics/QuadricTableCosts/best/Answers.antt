use Rattle.std.proofs.Common.{ap, arith}
use Rattle.pm_quadric.specs.Sums.{Sums}
use Rattle.pm_costs.proofs.PlainLaws.{pair_fits}
use Rattle.pm_costs.proofs.quadrics.QuadricTableCosts.best.Goals as goal

pub plus-both-requires : goal.plus-both-requires
plus-both-requires c =
    let (p, m, log, after, goes) = c.requires.known in
    let fits = pair_fits p m log c.args.shrink.now c.args.self.now after goes c.args.a c.args.b
    c.requires.a_live c.requires.b_live c.requires.ordered in
    let first = ap (λ (q : Sums). q.count) c.get.ensures in
    let second = ap (λ (q : Sums). q.count) c.get-2.ensures in
    omega arith
