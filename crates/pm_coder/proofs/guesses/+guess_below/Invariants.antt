use Rattle.pm_coder.proofs.guesses.+guess_below.Given as goal

abbrev pub decreases-guess_below : goal.decreases-guess_below
decreases-guess_below g l = l.bound
