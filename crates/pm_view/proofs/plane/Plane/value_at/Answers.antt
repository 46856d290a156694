use Rattle.std.proofs.Common.{◌^◌, w32, w64, lit<}
use Rattle.pm_base.proofs.ReadBack.{read_small, equal_small}
use Rattle.pm_view.proofs.PlaneLaws.{small_plane, term_is, sum_is}
use Rattle.pm_view.proofs.plane.Plane.value_at.Goals as goal

pub component-requires : goal.component-requires
component-requires c = record {
  a_small =
      read_small w32 c.args.self.now.a 32767 (small_plane c.args.self.now c.requires).a (lit< tt);
  x_small = equal_small w32 c.x.result c.args.p.x 32767 c.x.ensures.value c.x.ensures.in_range.0
      (lit< tt);
}

pub component-requires-2 : goal.component-requires-2
component-requires-2 c = record {
  a_small =
      read_small w32 c.args.self.now.b 32767 (small_plane c.args.self.now c.requires).b (lit< tt);
  x_small = equal_small w32 c.y.result c.args.p.y 32767 c.y.ensures.value c.y.ensures.in_range.1
      (lit< tt);
}

pub component-requires-3 : goal.component-requires-3
component-requires-3 c = record {
  a_small =
      read_small w32 c.args.self.now.c 32767 (small_plane c.args.self.now c.requires).c (lit< tt);
  x_small = equal_small w32 c.z.result c.args.p.z 32767 c.z.ensures.value c.z.ensures.in_range.2
      (lit< tt);
}

pub add_four-requires-clause-a_small : goal.add_four-requires-clause-a_small
add_four-requires-clause-a_small c =
    read_small w64 c.component.result (2 ^ 31) c.component.ensures.small (lit< tt)

pub add_four-requires-clause-b_small : goal.add_four-requires-clause-b_small
add_four-requires-clause-b_small c =
    read_small w64 c.component-2.result (2 ^ 31) c.component-2.ensures.small (lit< tt)

pub add_four-requires-clause-c_small : goal.add_four-requires-clause-c_small
add_four-requires-clause-c_small c =
    read_small w64 c.component-3.result (2 ^ 31) c.component-3.ensures.small (lit< tt)

pub add_four-requires-clause-d_small : goal.add_four-requires-clause-d_small
add_four-requires-clause-d_small c =
    read_small w64 c.args.self.now.d (2 ^ 42) (small_plane c.args.self.now c.requires).d (lit< tt)

pub returns-clause-value : goal.returns-clause-value
returns-clause-value c =
    let small = small_plane c.args.self.now c.requires in
    sum_is c.add_four.result c.component.result c.component-2.result c.component-3.result
    c.args.self.now.d _ _ _ c.add_four.ensures.value c.component.ensures.small
    c.component-2.ensures.small c.component-3.ensures.small small.d c.add_four.ensures.small
    (term_is c.component.result c.args.self.now.a c.args.p.x c.x.result c.component.ensures.value
    c.x.ensures.value small.a c.x.ensures.in_range.0)
    (term_is c.component-2.result c.args.self.now.b c.args.p.y c.y.result
    c.component-2.ensures.value c.y.ensures.value small.b c.y.ensures.in_range.1)
    (term_is c.component-3.result c.args.self.now.c c.args.p.z c.z.result
    c.component-3.ensures.value c.z.ensures.value small.c c.z.ensures.in_range.2)

pub returns-clause-small : goal.returns-clause-small
returns-clause-small c =
    read_small w64 c.add_four.result (2 ^ 43) c.add_four.ensures.small (lit< tt)
