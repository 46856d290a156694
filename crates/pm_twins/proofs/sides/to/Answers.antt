use Rattle.pm_twins.proofs.CornerLaws.{to_turned}
use Rattle.pm_twins.proofs.sides.to.Goals as goal

pub returns : goal.returns
returns c = to_turned c.args.faces.now c.args.side.0 c.face.result.0 c.face.ensures
