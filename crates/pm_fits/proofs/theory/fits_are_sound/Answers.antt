use Rattle.pm_fits.proofs.ChannelLaws.{length-fit_array, get_or-fit_array}
use Rattle.pm_fits.proofs.FitLaws.{own, comes_back, between, equal}
use Rattle.pm_fits.proofs.theory.fits_are_sound.Goals as goal

pub returns-clause-leaves : goal.returns-clause-leaves
returns-clause-leaves c = own

pub returns-clause-inputs : goal.returns-clause-inputs
returns-clause-inputs c = comes_back

pub returns-clause-between : goal.returns-clause-between
returns-clause-between c = between

pub returns-clause-equal : goal.returns-clause-equal
returns-clause-equal c = equal

pub returns-clause-channels : goal.returns-clause-channels
returns-clause-channels c =
    λ h values n. (length-fit_array h values n, get_or-fit_array h values n)
