use Rattle.std.proofs.Common.{◌≡◌, length, ap, ◌∙◌, arith}
use Rattle.pm_base.specs.Meshes.{Mesh}
use Rattle.pm_base.specs.Sides.{net_of}
use Rattle.pm_tiles.proofs.Flags.{one_more, all_set, keeps_border}
use Rattle.pm_tiles.proofs.border.border_flags.Goals as goal

pub loop-vertex-preserved : goal.loop-vertex-preserved
loop-vertex-preserved c =
    let m : Mesh = c.args.surface.now in
    let vertex = c.loop-vertex.vertex in
    let all : c.len-vertices.result ≡ length m.points =
    c.len-vertices.ensures ∙ ap (λ (n : Mesh). length n.points) c.mesh.ensures in
    one_more (net_of m.faces) (length m.points) vertex c.loop-vertex.flags.items c.is_border.result
    c.loop-vertex.invariant (omega (arith, all, c.loop-vertex-test.true))
    (c.is_border.ensures.border (net_of m.faces) (length m.points) c.twins-twins.ensures)

pub returns-clause-border : goal.returns-clause-border
returns-clause-border c =
    let m : Mesh = c.args.surface.now in
    let vertex = c.loop-vertex.vertex in
    let all : c.len-vertices.result ≡ length m.points =
    c.len-vertices.ensures ∙ ap (λ (n : Mesh). length n.points) c.mesh.ensures in
    let end = c.loop-vertex.auto.vertex-end in
    all_set (net_of m.faces) (length m.points) vertex c.loop-vertex.flags.items
    c.loop-vertex.invariant (omega (arith, all, end, c.loop-vertex-test.false))

pub returns-clause-keeps : goal.returns-clause-keeps
returns-clause-keeps c =
    keeps_border c.args.surface.now c.loop-vertex.flags.items c.invariant.ensures.formed
    (returns-clause-border c)
