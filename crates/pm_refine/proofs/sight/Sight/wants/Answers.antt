use Rattle.std.proofs.Common.{ap, ◌∙◌}
use Rattle.pm_forest.specs.Forest.{Hierarchy, s_of}
use Rattle.pm_view.specs.Wanted.{is_wanted}
use Rattle.pm_refine.proofs.sight.Sight.wants.Goals as goal

pub returns-clause-value : goal.returns-clause-value
returns-clause-value g c =
    c.wants_split.ensures.value
    ∙ ap (λ (x : Hierarchy). is_wanted x c.args.self.now.view.now (s_of x c.args.k))
    c.hierarchy-h.ensures
