use Rattle.pm_forest.proofs.MeshLaws.{leaf_mesh_formed}
use Rattle.pm_forest.proofs.hierarchy.Hierarchy.leaf_mesh.Goals as goal

pub returns-in_err-points-clause-formed : goal.returns-in_err-points-clause-formed
returns-in_err-points-clause-formed c = leaf_mesh_formed c.args.self.now c.invariant.ensures
