-- The worked examples.
use Rattle.std.proofs.Common.{refl}
use Rattle.pm_ears.specs.Areas.{cross_of, lies_in, inside_of}
use Rattle.pm_ears.specs.Planes.{spot_of, largest_of, first_seen, plane_by}
use Rattle.pm_ears.specs.Ears.{next_ear}
use Rattle.pm_ears.specs.Cutting.{pieces_of}
use Rattle.pm_ears.specs.Laws.{AreWorked}

pub worked : AreWorked
unfolding cross_of lies_in inside_of spot_of largest_of first_seen plane_by next_ear pieces_of
worked = record {
  ears = refl;
  triangles = refl;
  overlaps = refl;
  fan = refl;
  crosswise_overlaps = refl;
  crosswise_fan = refl;
}
