-- The laws of the hierarchy of a run.
use Rattle.std.proofs.Common.{sym}
use Rattle.pm_number.specs.Stages.{run_of}
use Rattle.pm_number.specs.Numbering.{node_number, leaf_number, face_number, hierarchy_of}
use Rattle.pm_number.specs.Numbering.{hierarchy_of_run}
use Rattle.pm_number.specs.Laws as law
use Rattle.pm_number.proofs.Merging.{merging}
use Rattle.pm_number.proofs.Undoing.{undoes}
use Rattle.pm_number.proofs.Undone.{valid}
use Rattle.pm_number.proofs.Whole.{numbered}
use Rattle.pm_number.proofs.NodeNumbers.{count}
use Rattle.pm_number.proofs.RunCounts.{leaf-number-count, face-count}
use Rattle.pm_number.proofs.InputMesh.{same_mesh}
use Rattle.pm_number.proofs.Shaped.{shaped, on_grid}
use Rattle.pm_number.proofs.ShownLaws.{shown_at}

pub have_shape : law.HierarchiesHaveShape
unfolding hierarchy_of_run
have_shape m start log run are =
    shaped (run_of m log) (merging m log start run) start.formed.points start.formed.faces
    (on_grid m log are)

pub keep_meshes : law.HierarchiesKeepMeshes
unfolding hierarchy_of_run
keep_meshes m start log run =
    let told = merging m log start run in
    record {
      mesh = same_mesh m log told;
      leaves = sym (leaf-number-count (run_of m log) told);
      faces = sym (face-count (run_of m log) told);
      records = count (run_of m log);
    }

pub are_valid : law.HierarchiesOfRunsAreValid
unfolding hierarchy_of_run
are_valid m start log run shape =
    let r = run_of m log in
    let told = merging m log start run in
    valid (hierarchy_of r)
    (undoes r (hierarchy_of r) (node_number r) (leaf_number r) (face_number r) told
    (numbered r told)) shape

pub are_shown : law.SurfacesAreShown
are_shown m start log run i k is = shown_at m start log run i k is
