use Rattle.pm_fine_costs.proofs.RoundRows.{border_row, inner_row}
use Rattle.pm_fine_costs.proofs.theory.planes_round_are_right.Goals as goal

pub returns : goal.returns
returns c = record { border = border_row; inner = inner_row }
