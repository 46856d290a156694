use Rattle.pm_manifold.proofs.LeafMeshes.{euler_stays}
use Rattle.pm_manifold.proofs.Nodes.{one_at_each_node}
use Rattle.pm_manifold.proofs.theory.euler_is_sound.Goals as goal

pub returns : goal.returns
returns c = record { euler = euler_stays; node = one_at_each_node }
