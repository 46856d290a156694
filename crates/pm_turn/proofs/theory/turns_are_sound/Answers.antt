use Rattle.pm_turn.proofs.TurnedFaces.{turned_faces_become_manifolds, each_is_turned_or_not}
use Rattle.pm_turn.proofs.TurnedFaces.{turned_faces_stay, turns_are_one, agreeing_faces_stay}
use Rattle.pm_turn.proofs.TurnedFaces.{manifolds_are_not_turned}
use Rattle.pm_turn.proofs.TurnedSides.{turned_mates_are_glued, glued_stays_glued}
use Rattle.pm_turn.proofs.TurnedAgain.{turned_faces_are_turned_once}
use Rattle.pm_turn.proofs.TurnsThere.{turns_are_there}
use Rattle.pm_turn.proofs.Traced.{traced_tables_turn}
use Rattle.pm_turn.proofs.theory.turns_are_sound.Goals as goal

pub returns : goal.returns
returns c = record {
  manifold = turned_faces_become_manifolds;
  each = each_is_turned_or_not;
  stay = turned_faces_stay;
  there = turns_are_there;
  one = turns_are_one;
  agreeing = agreeing_faces_stay;
  untouched = manifolds_are_not_turned;
  glued = turned_mates_are_glued;
  still = glued_stays_glued;
  once = turned_faces_are_turned_once;
  traced = traced_tables_turn;
}
