use Rattle.std.proofs.Common.{◌^◌, lit<}
use mir.Syntax.{w128}
use Rattle.pm_base.proofs.ReadBack.{read_small}
use Rattle.pm_fine_costs.proofs.face_sum.FaceSum.norm2.Goals as goal

pub square-requires : goal.square-requires
square-requires c = read_small w128 c.args.self.now.x (2 ^ 54) c.requires.x (lit< tt)

pub square-requires-2 : goal.square-requires-2
square-requires-2 c = read_small w128 c.args.self.now.y (2 ^ 54) c.requires.y (lit< tt)

pub square-requires-3 : goal.square-requires-3
square-requires-3 c = read_small w128 c.args.self.now.z (2 ^ 54) c.requires.z (lit< tt)
