use Rattle.pm_twins.proofs.MeshLaws as law
use Rattle.pm_twins.proofs.theory.meshes_are_sound.Goals as goal

pub returns : goal.returns
returns c = record {
  sides = law.sides_are_corners;
  whole = law.meshes_stand;
  found = law.twins_are_found;
  back = law.twins_are_mutual;
  pairs = law.pairs_are_distinct;
  rounds = law.fans_are_rounds;
  borders = law.one_border_side_each;
  inside = law.fans_close_inside;
  apart = law.no_two_faces_alike;
}
