-- The sides before the first collapse, and the room that a run needs.
use Rattle.std.proofs.Common.{◌≡◌, ℕ, ◌+◌, ◌*◌, ◌<◌, ◌≤◌, List, [], ◌∷◌, ◌++◌, length, sym, ap, ◌∙◌}
use Rattle.std.proofs.lemmas.Grind.{common_steps}
use Rattle.std.proofs.Common.{subst, arith}
use Rattle.std.proofs.lemmas.List.{length-append}
use Rattle.pm_base.specs.declared.log.Collapse.{Collapse}
use Rattle.pm_base.specs.Meshes.{Mesh}
use Rattle.pm_base.specs.Sides.{Net, Stands}
use Rattle.pm_base.proofs.NetLaws.{mesh_side}
use Rattle.pm_runs.specs.Surfaces.{net_of_surface, surface_of}
use Rattle.pm_runs.specs.Runs.{IsStartOfRun, IsRun}
use Rattle.pm_runs.proofs.RunsProved.{runs_are_short}
use Rattle.pm_shrink.specs.Shrinking.{Shrinking, net_at}
use Rattle.pm_shrink.proofs.AllFaces.{net_there}

pub start_stands : (m : Mesh) (s : Shrinking) → IsStartOfRun m → s.surface ≡ surface_of m → (e : ℕ)
    → e < 3 * length m.faces → Stands (net_at s) e
start_stands m s start made e l =
    subst (λ (n : Net). Stands n e) (sym (ap net_of_surface made ∙ net_there m))
    (mesh_side m start.formed e l).0

pub start_sides : (m : Mesh) (s : Shrinking) → s.surface ≡ surface_of m
    → (net_at s).faces ≡ length m.faces
start_sides m s made = ap (λ (n : Net). n.faces) (ap net_of_surface made ∙ net_there m)

-- A run with one more entry leaves a vertex.
pub room_left : (m : Mesh) → IsStartOfRun m → (log : List Collapse) (c : Collapse)
    → IsRun m (log ++ c ∷ []) → length log + 2 ≤ length m.points
room_left m start log c run = grind (arith, common_steps, length-append, runs_are_short)
