use Rattle.std.proofs.Common.{w32, lit<}
use Rattle.pm_base.proofs.ReadBack.{read_small, equal_small}
use Rattle.pm_view.proofs.eye.Eye.squared_distance.Goals as goal

pub squared_gap-requires : goal.squared_gap-requires
squared_gap-requires c = record {
  at_small =
      equal_small w32 c.x.result c.args.place.x 32767 c.x.ensures.value
      c.x.ensures.in_range.0 (lit< tt);
  eye_small =
      read_small w32 c.self.inside.x 16777215 c.self.invariant.x (lit< tt);
}

pub squared_gap-requires-2 : goal.squared_gap-requires-2
squared_gap-requires-2 c = record {
  at_small =
      equal_small w32 c.y.result c.args.place.y 32767 c.y.ensures.value
      c.y.ensures.in_range.1 (lit< tt);
  eye_small =
      read_small w32 c.self.inside.y 16777215 c.self.invariant.y (lit< tt);
}

pub squared_gap-requires-3 : goal.squared_gap-requires-3
squared_gap-requires-3 c = record {
  at_small =
      equal_small w32 c.z.result c.args.place.z 32767 c.z.ensures.value
      c.z.ensures.in_range.2 (lit< tt);
  eye_small =
      read_small w32 c.self.inside.z 16777215 c.self.invariant.z (lit< tt);
}
