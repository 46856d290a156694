use Rattle.pm_turn.proofs.ChosenThere.{chosen_turns_are_there}
use Rattle.pm_turn.proofs.OneChoice.{chosen_turns_are_one, least_area_is_turned}
use Rattle.pm_turn.proofs.ChosenAgain.{agreeing_faces_are_kept, manifolds_are_kept}
use Rattle.pm_turn.proofs.ChosenAgain.{chosen_faces_are_turned_once}
use Rattle.pm_turn.proofs.Renumbered.{turns_are_renumbered, chosen_turns_are_renumbered}
use Rattle.pm_turn.proofs.Totals.{unit_tetrahedron_faces_out}
use Rattle.pm_turn.proofs.theory.chosen_turns_are_sound.Goals as goal

pub returns : goal.returns
returns c = record {
  there = chosen_turns_are_there;
  one = chosen_turns_are_one;
  agreeing = agreeing_faces_are_kept;
  untouched = manifolds_are_kept;
  once = chosen_faces_are_turned_once;
  least = least_area_is_turned;
  renumbered = chosen_turns_are_renumbered;
  turns_renumbered = turns_are_renumbered;
  unit = unit_tetrahedron_faces_out;
}
