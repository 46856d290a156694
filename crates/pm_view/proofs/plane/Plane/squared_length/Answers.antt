use Rattle.std.proofs.Common.{w32, lit<}
use Rattle.pm_base.proofs.ReadBack.{read_small}
use Rattle.pm_view.proofs.PlaneLaws.{small_plane}
use Rattle.pm_view.proofs.plane.Plane.squared_length.Goals as goal

pub square_of_component-requires : goal.square_of_component-requires
square_of_component-requires c =
    read_small w32 c.args.self.now.a 32767 (small_plane c.args.self.now c.requires).a (lit< tt)

pub square_of_component-requires-2 : goal.square_of_component-requires-2
square_of_component-requires-2 c =
    read_small w32 c.args.self.now.b 32767 (small_plane c.args.self.now c.requires).b (lit< tt)

pub square_of_component-requires-3 : goal.square_of_component-requires-3
square_of_component-requires-3 c =
    read_small w32 c.args.self.now.c 32767 (small_plane c.args.self.now c.requires).c (lit< tt)
