use Rattle.pm_turn.proofs.ToldAlways.{turn_counts_are_there, turn_counts_are_one}
use Rattle.pm_turn.proofs.ToldAlways.{manifolds_are_straight}
use Rattle.pm_turn.proofs.theory.turn_counts_are_sound.Goals as goal

pub returns : goal.returns
returns c = record {
  there = turn_counts_are_there;
  one = turn_counts_are_one;
  manifold = manifolds_are_straight;
}
