use Rattle.std.proofs.Common.{◌≡◌, ◌∙◌, List, [], length, ap, sym, subst, arith}
use Rattle.pm_keeping.specs.Keeping.{kept_in}
use Rattle.pm_base.specs.Meshes.{Mesh}
use Rattle.pm_base.specs.declared.log.Collapse.{Collapse}
use Rattle.pm_policies.proofs.Building.{runs_by_are_built}
use Rattle.pm_simplify.specs.Going.{IsUnderWay}
use Rattle.pm_runs.specs.Surfaces.{surface_of}
use Rattle.pm_runs.specs.Runs.{IsStartOfRun}
use Rattle.pm_shrink.specs.Following.{IsAfter}
use Rattle.pm_simplify.proofs.Starting.{start_stands, start_sides}
use Rattle.pm_simplify.proofs.stepwise.Run.begin.Goals as goal

pub of-requires-clause-known : goal.of-requires-clause-known
of-requires-clause-known g c =
    let (p, goes, kept) = c.requires.known in
    let after : IsAfter c.args.surface [] c.in_ok-shrink.shrink =
    subst (λ (n : Mesh). IsAfter n [] c.in_ok-shrink.shrink) c.into_parts-mesh.ensures.mesh
    c.in_ok-shrink.ensures.after in
    let same = ap kept_in (sym c.deref.ensures.value) in
    (p, c.args.surface, [], record { after = after; costs = goes; kept = kept ∙ same })

pub of-requires-clause-all : goal.of-requires-clause-all
of-requires-clause-all g c =
    let m : Mesh = c.args.surface in
    let parts = c.into_parts-mesh.ensures in
    let sides = start_sides m c.in_ok-shrink.shrink
    (c.in_ok-shrink.ensures.surface ∙ ap surface_of parts.mesh) in
    let faces = c.len-faces.ensures in
    let there = ap (λ (n : Mesh). length n.faces) parts.mesh in
    omega (arith, sides, faces, there)

pub of-requires-clause-stand : goal.of-requires-clause-stand
of-requires-clause-stand g c =
    let m : Mesh = c.args.surface in
    let parts = c.into_parts-mesh.ensures in
    let start : IsStartOfRun m = record { formed = parts.formed; manifold = parts.manifold } in
    let made : c.in_ok-shrink.shrink.surface ≡ surface_of m =
    c.in_ok-shrink.ensures.surface ∙ ap surface_of parts.mesh in
    let faces = c.len-faces.ensures in
    let same = ap (λ (n : Mesh). length n.faces) parts.mesh in
    λ e l. start_stands m c.in_ok-shrink.shrink start made e (omega (arith, l, faces, same))

pub returns-clause-begun : goal.returns-clause-begun
returns-clause-begun g c p goes kept =
    let m : Mesh = c.args.surface in
    let s = c.in_ok-shrink.shrink in
    let e = c.in_ok-edges.edges in
    let log = c.reserve.new.self in
    let goes_by = g.C.Costs.goes_by c.args.costs in
    let after : IsAfter m [] s =
    subst (λ (n : Mesh). IsAfter n [] s) c.into_parts-mesh.ensures.mesh
    c.in_ok-shrink.ensures.after in
    let same = ap kept_in (sym c.deref.ensures.value) in
    let empty : log.items ≡ [] = c.reserve.ensures.items ∙ c.new-log.ensures.items in
    let none = ap (λ (l : List Collapse). length l) empty in
    let room = c.in_ok-reserve.ensures.room in
    let least = c.saturating_sub.ensures in
    let points = c.len-points.ensures in
    let all = ap (λ (n : Mesh). length n.points) c.into_parts-mesh.ensures.mesh in
    record {
      under_way = subst (λ (l : List Collapse).
          IsUnderWay s goes_by c.args.kept.items p m c.args.target_faces l e.queue e.waiting)
          (sym empty) (record {
            on = record { after = after; costs = goes; kept = kept };
            right = c.in_ok-edges.ensures.right p m []
                (record { after = after; costs = goes; kept = kept ∙ same });
            begun = (runs_by_are_built p m c.args.target_faces).0;
          });
      tables = record {
        room = c.in_ok-edges.ensures.room;
        items = c.in_ok-edges.ensures.items;
        heads = c.in_ok-edges.ensures.heads;
        awaited = c.in_ok-edges.ensures.awaited;
        noted = c.in_ok-edges.ensures.noted;
      };
      room = omega (arith, room, least, points, all, none);
    }
