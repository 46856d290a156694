use Rattle.pm_base.specs.Meshes.{mesh_of}
use Rattle.pm_twins.proofs.Whole.{read_whole}
use Rattle.pm_twins.proofs.twins.Twins.of.Goals as goal

pub list_sides-requires : goal.list_sides-requires
list_sides-requires c =
    read_whole (mesh_of c.args.mesh.now) c.requires c.as_slice-faces.ensures c.len-vertices.ensures

pub pair_sides-requires-clause-whole : goal.pair_sides-requires-clause-whole
pair_sides-requires-clause-whole c =
    read_whole (mesh_of c.args.mesh.now) c.requires c.as_slice-faces.ensures c.len-vertices.ensures

pub mark_border-requires-clause-whole : goal.mark_border-requires-clause-whole
mark_border-requires-clause-whole c =
    read_whole (mesh_of c.args.mesh.now) c.requires c.as_slice-faces.ensures c.len-vertices.ensures

pub returns-clause-twins : goal.returns-clause-twins
returns-clause-twins c =
    rw (← c.as_slice-faces.ensures, ← c.len-vertices.ensures)
    (record {
      once = c.in_ok-twins.ensures.once;
      twins = c.in_ok-twins.ensures.twins;
      border = c.in-Ok-mark_border.ensures;
    })
