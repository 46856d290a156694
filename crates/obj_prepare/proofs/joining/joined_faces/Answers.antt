use Rattle.std.proofs.Common.{arith}
use Rattle.obj_prepare.proofs.JoiningLaws.{renamed_more, renamed_all}
use Rattle.obj_prepare.proofs.joining.joined_faces.Goals as goal

pub loop-at-preserved : goal.loop-at-preserved
loop-at-preserved c = grind (arith, renamed_more)

pub returns : goal.returns
returns c =
    renamed_all c.args.names.now c.args.faces.now c.loop-at.joined.items c.loop-at.at (omega arith)
    c.loop-at.invariant
