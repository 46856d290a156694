use Rattle.pm_fans.proofs.Splitting.{splits_make_manifolds, manifolds_stay_whole, numberings_split}
use Rattle.pm_fans.proofs.KeptLaws.{kept_are_fit, nothing_is_lost}
use Rattle.pm_fans.proofs.Staying.{fit_lists_stay, manifolds_stay}
use Rattle.pm_fans.proofs.OneSplit.{splits_are_one}
use Rattle.pm_fans.proofs.OwnSplit.{manifolds_are_their_own_split}
use Rattle.pm_fans.proofs.theory.splits_are_sound.Goals as goal

pub returns : goal.returns
returns c = record {
  manifold = splits_make_manifolds;
  whole = manifolds_stay_whole;
  numbered = numberings_split;
  fit = kept_are_fit;
  any = λ fs fs' s. let (stand, single) =
      kept_are_fit fs in splits_make_manifolds _ _ stand single s;
  kept = nothing_is_lost;
  stay = fit_lists_stay;
  fit_input = manifolds_stay;
  one = splits_are_one;
  own = manifolds_are_their_own_split;
}
