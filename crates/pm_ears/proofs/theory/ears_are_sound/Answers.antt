use Rattle.pm_ears.proofs.CutLaws as cuts
use Rattle.pm_ears.proofs.PieceLaws as pieces
use Rattle.pm_ears.proofs.Recuts.{recuts_are_as_many, upright_fans_stay}
use Rattle.pm_ears.proofs.SeenLaws.{judged_where_seen}
use Rattle.pm_ears.proofs.Shown.{shown_largest}
use Rattle.pm_ears.proofs.Worked.{worked}
use Rattle.pm_ears.proofs.theory.ears_are_sound.Goals as goal

pub returns : goal.returns
returns c = record {
  areas = cuts.areas_add_up;
  fewer = cuts.two_fewer;
  fans = cuts.fans_are_cuts;
  ears = pieces.ears_are_cuts;
  pieces = pieces.pieces_are_cuts;
  upright = pieces.upright_unless_told;
  told = pieces.overlaps_told;
  shown = shown_largest;
  seen = judged_where_seen;
  as_many = recuts_are_as_many;
  stay = upright_fans_stay;
  worked = worked;
}
