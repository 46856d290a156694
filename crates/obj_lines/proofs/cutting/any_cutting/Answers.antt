use Rattle.obj_lines.proofs.CutLaws.{any_cutting, any_cutting_stops}
use Rattle.obj_lines.proofs.cutting.any_cutting.Goals as goal

pub returns-clause-lines : goal.returns-clause-lines
returns-clause-lines c = any_cutting

pub returns-clause-too_long : goal.returns-clause-too_long
returns-clause-too_long c = any_cutting_stops
