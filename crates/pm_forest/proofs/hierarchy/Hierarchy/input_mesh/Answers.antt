use Rattle.pm_forest.proofs.MeshLaws.{input_mesh_formed}
use Rattle.pm_forest.proofs.hierarchy.Hierarchy.input_mesh.Goals as goal

pub returns-in_err-vertices-clause-formed : goal.returns-in_err-vertices-clause-formed
returns-in_err-vertices-clause-formed c = input_mesh_formed c.args.self.now c.invariant.ensures

pub returns-in_err-points-clause-formed : goal.returns-in_err-points-clause-formed
returns-in_err-points-clause-formed c = input_mesh_formed c.args.self.now c.invariant.ensures
