use Rattle.std.proofs.Common.{◌∙◌, ap}
use Rattle.pm_quadric.specs.Sums.{Sums}
use Rattle.pm_quadric.proofs.QuadricLaws.{count_is}
use Rattle.pm_quadric.proofs.quadric.Quadric.planes.Goals as goal

pub returns-clause-lists : goal.returns-clause-lists
returns-clause-lists c fs e =
    ap (λ (s : Sums). s.count) c.self.view_is ∙ count_is c.args.self.now fs e
