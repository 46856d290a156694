use Rattle.std.proofs.Common.{◌≡◌, ◌-◌}
use Rattle.ply_read.specs.Body.{with_element}
use Rattle.ply_read.specs.Steps.{repeated}
use Rattle.ply_read.specs.Told.{mesh_in}
use Rattle.ply_read.proofs.mesh.MeshReader.take_elements.Given as goal

abbrev pub invariant-loop-i : goal.invariant-loop-i
invariant-loop-i l =
    repeated (with_element l.e l.el.kind l.properties) (l.el.count - l._i)
    (mesh_in l.self l.after)
    ≡ repeated (with_element l.e l.el.kind l.properties) l.el.count (mesh_in l.fn.self l.rest)
