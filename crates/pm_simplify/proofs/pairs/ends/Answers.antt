use Rattle.std.proofs.Common.{◌∙◌, ap}
use Rattle.pm_runs.specs.Surfaces.{is_live}
use Rattle.pm_runs.proofs.Live.{corner_live}
use Rattle.pm_simplify.proofs.pairs.ends.Goals as goal

pub returns-then-p-q-clause-a_live : goal.returns-then-p-q-clause-a_live
returns-then-p-q-clause-a_live c =
    ap (is_live c.args.shrink.now.surface) c.vertex_at-p.ensures
    ∙ corner_live c.args.shrink.now.surface c.invariant.ensures.kept.surface c.args.side.0
    c.requires

pub returns-then-p-q-clause-b_live : goal.returns-then-p-q-clause-b_live
returns-then-p-q-clause-b_live c =
    ap (is_live c.args.shrink.now.surface) c.vertex_at-q.ensures
    ∙ corner_live c.args.shrink.now.surface c.invariant.ensures.kept.surface c.next.result.0
    c.next.ensures.stands

pub returns-else-p-q-clause-a_live : goal.returns-else-p-q-clause-a_live
returns-else-p-q-clause-a_live c =
    ap (is_live c.args.shrink.now.surface) c.vertex_at-q.ensures
    ∙ corner_live c.args.shrink.now.surface c.invariant.ensures.kept.surface c.next.result.0
    c.next.ensures.stands

pub returns-else-p-q-clause-b_live : goal.returns-else-p-q-clause-b_live
returns-else-p-q-clause-b_live c =
    ap (is_live c.args.shrink.now.surface) c.vertex_at-p.ensures
    ∙ corner_live c.args.shrink.now.surface c.invariant.ensures.kept.surface c.args.side.0
    c.requires
