use Rattle.pm_view.proofs.NodeLaws.{wanting_passes_up, unwanted_for_a_reason, one_tolerance}
use Rattle.pm_view.proofs.theory.wanted_nodes_are_sound.Goals as goal

pub returns-clause-up : goal.returns-clause-up
returns-clause-up c = wanting_passes_up

pub returns-clause-reasons : goal.returns-clause-reasons
returns-clause-reasons c = unwanted_for_a_reason

pub returns-clause-plain : goal.returns-clause-plain
returns-clause-plain c = one_tolerance
