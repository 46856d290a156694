use Rattle.std.proofs.Common.{arith}
use Rattle.obj_prepare.proofs.NamedLaws.{one_more_named, corners_within}
use Rattle.obj_prepare.proofs.named.named.Goals as goal

pub name_corners-requires : goal.name_corners-requires
name_corners-requires c = grind (arith, corners_within)

pub loop-at-preserved : goal.loop-at-preserved
loop-at-preserved c = grind (arith, one_more_named)
