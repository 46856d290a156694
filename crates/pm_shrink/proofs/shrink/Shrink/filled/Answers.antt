use Rattle.std.proofs.Common.{◌<◌, ◌∙◌, ℕ, List, Option, Some, None, length, get_or, map}
use Rattle.std.proofs.Common.{ap, sym, subst, arith}
use Rattle.std.specs.Prelude.{IfSome}
use Rattle.std.proofs.lemmas.List.{length-map}
use Rattle.pm_base.specs.declared.limits.TheConstants.{MOST_SIDES}
use Rattle.pm_base.specs.Meshes.{mesh_of}
use Rattle.pm_base.specs.Sides.{net_of}
use Rattle.pm_shrink.proofs.FollowingLaws.{start_after}
use Rattle.pm_shrink.proofs.Started.{HoldCorners, twins_low, corners_there, corners_within}
use Rattle.pm_shrink.proofs.Started.{surface_there, started}
use Rattle.pm_shrink.proofs.shrink.Shrink.filled.Goals as goal

pub new-requires-clause-small : goal.new-requires-clause-small
new-requires-clause-small c =
    subst (λ (t : List (Option ℕ)). (e : ℕ) → IfSome (get_or t e None) (λ g. g < MOST_SIDES))
    (sym c.into_sides.ensures)
    (twins_low (net_of c.args.mesh.faces.items) c.args.twins.twins c.requires.twins.twins
    c.requires.formed.faces)

pub corner_lists-requires-clause-there : goal.corner_lists-requires-clause-there
corner_lists-requires-clause-there c =
    corners_there (mesh_of c.args.mesh) c.requires.formed c.requires.manifold
    ((c.in_ok-faces.ensures {u = tt}).faces ∙ ap (map Some) c.as_slice-triples.ensures)

pub corner_lists-requires-clause-within : goal.corner_lists-requires-clause-within
corner_lists-requires-clause-within c =
    let low = corners_within (mesh_of c.args.mesh) c.requires.formed c.requires.manifold
    ((c.in_ok-faces.ensures {u = tt}).faces ∙ ap (map Some) c.as_slice-triples.ensures) in
    λ e l. omega (arith, low e l, ap length c.as_slice-points.ensures)

pub invariant_of-result : goal.invariant_of-result
invariant_of-result c =
    let faces = (c.in_ok-faces.ensures {u = tt}).faces ∙ ap (map Some) c.as_slice-triples.ensures in
    let across = (c.in_ok-faces.ensures {u = tt}).across ∙ c.into_sides.ensures in
    let places = rw c.as_slice-points.ensures at c.in_ok-places.ensures in
    let lists =
    rw (faces, length-map c.args.mesh.faces.items Some, c.as_slice-points.ensures) at
    (c.in_ok-corners.ensures {u = tt}) in
    let held : HoldCorners (mesh_of c.args.mesh) c.in_ok-corners.corners = record {
      items = lists.items;
      heads = lists.heads;
      sound = lists.sound;
      each = lists.each;
    } in
    rw (faces, across, places, c.as_slice-points.ensures, c.as_slice-triples.ensures)
    (started (mesh_of c.args.mesh) c.requires.formed c.requires.manifold c.requires.twins held)

pub returns-clause-surface : goal.returns-clause-surface
returns-clause-surface c =
    rw (
      (c.in_ok-faces.ensures {u = tt}).faces,
      c.as_slice-triples.ensures,
      c.in_ok-places.ensures,
      c.as_slice-points.ensures,
    ) (surface_there (mesh_of c.args.mesh) c.in_ok-corners.corners c.args.twins.twins)

pub returns-clause-after : goal.returns-clause-after
returns-clause-after c =
    start_after (mesh_of c.args.mesh) _
    (record { formed = c.requires.formed; manifold = c.requires.manifold })
    (returns-clause-surface c)
