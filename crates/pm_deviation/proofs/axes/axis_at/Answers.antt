use Rattle.pm_deviation.proofs.AxisLaws.{axis_at}
use Rattle.pm_deviation.proofs.axes.axis_at.Goals as goal

pub returns-clause-axis : goal.returns-clause-axis
returns-clause-axis c = axis_at c.args.i _ c.requires
