use Rattle.pm_forest.proofs.MeshLaws.{has_input_numbers}
use Rattle.pm_forest.proofs.theory.input_meshes_are_sound.Goals as goal

pub returns : goal.returns
returns c = has_input_numbers
