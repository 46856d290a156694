use Rattle.std.proofs.Common.{rules}
use Rattle.pm_runs.proofs.Living.{joined_live}
use Rattle.pm_shrink.specs.Tables.{tables_of, surface_in}
use Rattle.pm_shrink.proofs.FollowingLaws.{collapse_after}
use Rattle.pm_shrink.proofs.shrink.Shrink.merge.Goals as goal

pub entry-entry-requires : goal.entry-entry-requires
entry-entry-requires c =
    let legal = rw (← c.self.view_is) at c.requires.legal in
    let live = joined_live (surface_in (tables_of c.self.inside.tables))
    c.self.invariant.kept.surface c.args.a c.args.b legal.joined in
    rw (← c.self.view_is) (record { a_live = live.0; b_live = live.1 })

pub returns-clause-surface : goal.returns-clause-surface
returns-clause-surface c = search rules

pub returns-clause-after : goal.returns-clause-after
returns-clause-after c = λ m log after.
    collapse_after after c.requires.ordered c.requires.legal c.entry-entry.ensures
    (returns-clause-surface c)
