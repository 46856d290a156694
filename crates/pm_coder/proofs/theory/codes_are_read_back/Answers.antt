use Rattle.pm_coder.proofs.ApartLaws.{choices-are_settled, choices-take_few}
use Rattle.pm_coder.proofs.DecodeLaws.{codes-are_read_back, cut_codes-are_refused, codes-are_short}
use Rattle.pm_coder.proofs.theory.codes_are_read_back.Goals as goal

pub returns-clause-read_back : goal.returns-clause-read_back
returns-clause-read_back c = codes-are_read_back

pub returns-clause-cut : goal.returns-clause-cut
returns-clause-cut c = cut_codes-are_refused

pub returns-clause-short : goal.returns-clause-short
returns-clause-short c = codes-are_short

pub returns-clause-settled : goal.returns-clause-settled
returns-clause-settled c = choices-are_settled

pub returns-clause-few : goal.returns-clause-few
returns-clause-few c = choices-take_few
