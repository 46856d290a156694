use Rattle.pm_base.specs.Meshes.{mesh_of}
use Rattle.pm_deviation.proofs.LeafMesh.{leaf_tables, leaf_once}
use Rattle.pm_deviation.proofs.border.leaf_twins.Goals as goal

pub twins_of-requires-clause-once : goal.twins_of-requires-clause-once
twins_of-requires-clause-once c =
    leaf_once c.args.h.now (mesh_of c.in_ok-mesh.mesh) c.in_ok-mesh.ensures.mesh c.requires

pub returns : goal.returns
returns c =
    leaf_tables c.args.h.now (mesh_of c.in_ok-mesh.mesh) c.twins_of.result
    c.in_ok-mesh.ensures.mesh c.twins_of.ensures
