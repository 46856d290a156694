use Rattle.std.proofs.Common.{◌≡◌, drop}
use Rattle.ply_read.specs.Body.{with_declared}
use Rattle.ply_read.specs.Told.{mesh_in}
use Rattle.ply_read.proofs.mesh.MeshReader.take_declared.Given as goal

abbrev pub invariant-loop-i : goal.invariant-loop-i
invariant-loop-i l =
    with_declared l.e (drop l.i l.declared) (mesh_in l.self l.after)
    ≡ with_declared l.e l.declared (mesh_in l.fn.self l.rest)
