use Rattle.std.proofs.Common.{◌<◌, sym, ap, subst, ◌∙◌}
use Rattle.pm_forest.specs.Forest.{node_count, s_of}
use Rattle.pm_bounds.specs.declared.balls.Ball.{Ball}
use Rattle.std.specs.Prelude.{slice_index_or}
use Rattle.pm_base.specs.Place.{origin}
use Rattle.pm_bounds.specs.Bounds.{Bounds, IsBallOf, bare_at}
use Rattle.pm_bounds.proofs.Nodes.{split_node}
use Rattle.pm_view.specs.Wanted.{is_wanted}
use Rattle.pm_view.proofs.wanted.wants_split.Goals as goal

pub passes-requires-clause-node : goal.passes-requires-clause-node
passes-requires-clause-node g c =
    let h = c.args.h.now in
    subst (λ v. v < node_count h) (sym c.requires.node)
    (split_node h c.invariant.ensures c.args.k c.requires.record)

pub passes-requires-clause-ball : goal.passes-requires-clause-ball
passes-requires-clause-ball g c =
    let h = c.args.h.now in
    let k = c.args.k in
    subst (λ v. IsBallOf h v c.split_ball.result) (sym c.requires.node)
    (subst (λ (b : Ball). IsBallOf h (s_of h k) b) (sym c.split_ball.ensures.value)
    (subst (λ (b : Bounds). IsBallOf h (s_of h k) (slice_index_or b.splits k (bare_at origin)))
    (sym c.bounds.ensures)
    (c.requires.measures.are.bounds.splits k c.requires.record)))

pub returns-clause-value : goal.returns-clause-value
returns-clause-value g c =
    c.passes.ensures.value ∙ ap (is_wanted c.args.h.now c.args.view.now) c.requires.node
