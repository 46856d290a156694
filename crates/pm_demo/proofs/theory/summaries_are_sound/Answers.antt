use Rattle.pm_demo.proofs.SummaryLaws.{one_summary, some_summary}
use Rattle.pm_demo.proofs.theory.summaries_are_sound.Goals as goal

pub returns : goal.returns
returns c = record { some = some_summary; one = one_summary }
