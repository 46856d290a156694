use Rattle.pm_twins.proofs.CornerLaws.{third_turned}
use Rattle.pm_twins.proofs.sides.third.Goals as goal

pub returns : goal.returns
returns c = third_turned c.args.faces.now c.args.side.0 c.face.result.0 c.face.ensures
