use Rattle.pm_paint.proofs.MeanLaws.{own, comes_back, joined, nearest, between}
use Rattle.pm_paint.proofs.FrontSums.{fronts_have_all, corner_has_chart}
use Rattle.pm_paint.proofs.ChannelLaws.{length-mean_array, get_or-mean_array}
use Rattle.pm_paint.proofs.theory.means_are_sound.Goals as goal

pub returns-clause-leaves : goal.returns-clause-leaves
returns-clause-leaves c = own

pub returns-clause-inputs : goal.returns-clause-inputs
returns-clause-inputs c = comes_back

pub returns-clause-sums : goal.returns-clause-sums
returns-clause-sums c = joined

pub returns-clause-nearest : goal.returns-clause-nearest
returns-clause-nearest c = nearest

pub returns-clause-between : goal.returns-clause-between
returns-clause-between c = between

pub returns-clause-fronts : goal.returns-clause-fronts
returns-clause-fronts c = fronts_have_all

pub returns-clause-charts : goal.returns-clause-charts
returns-clause-charts c = corner_has_chart

pub returns-clause-channels : goal.returns-clause-channels
returns-clause-channels c =
    λ h values n. (length-mean_array h values n, get_or-mean_array h values n)
