use Rattle.pm_coder.proofs.DifferLaws.{guesses-part}
use Rattle.pm_coder.proofs.theory.guesses_are_read_back.Goals as goal

pub returns : goal.returns
returns g c = guesses-part g.P.Predictor c.args.predictor.now
