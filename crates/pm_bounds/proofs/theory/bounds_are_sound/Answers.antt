use Rattle.pm_bounds.proofs.FacesUnder.{child_faces}
use Rattle.pm_bounds.proofs.GrownLaws.{box_under-split}
use Rattle.pm_bounds.proofs.Covering.{errors_grow, radii_grow, leaves_covered, corners_covered}
use Rattle.pm_bounds.proofs.Covering.{normals_boxed, boxes_nest}
use Rattle.pm_bounds.proofs.theory.bounds_are_sound.Goals as goal

pub returns : goal.returns
returns c = record {
  errors = errors_grow;
  radii = radii_grow;
  boxes = box_under-split;
  leaves = leaves_covered;
  corners = corners_covered;
  normals = normals_boxed;
  faces = child_faces;
  nested = boxes_nest;
}
