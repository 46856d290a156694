use Rattle.pm_base.specs.Meshes.{mesh_of}
use Rattle.pm_number.proofs.FromLog.{small_run, of_slice, is_made}
use Rattle.pm_number.proofs.number.from_log.Goals as goal

pub numbers-requires : goal.numbers-requires
numbers-requires c =
    rw c.as_slice.ensures
    (small_run (mesh_of c.args.mesh.now) c.args.log.now.items c.requires.start c.requires.run)

pub returns : goal.returns
returns c =
    let m = mesh_of c.args.mesh.now in
    let log = c.args.log.now.items in
    let is = of_slice m c.hierarchy.result c.as_slice.ensures c.in_ok-numbers.ensures.run
    c.hierarchy.ensures.value in
    let made = is_made m log c.hierarchy.result c.requires.start c.requires.run is
    c.hierarchy.ensures.shape in
    record {
      hierarchy = made.hierarchy;
      valid = made.valid;
      firm = made.firm;
      mesh = made.mesh;
    }
