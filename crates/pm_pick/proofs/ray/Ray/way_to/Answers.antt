use Rattle.std.proofs.Common.{w32, w64, ap, lit<}
use Rattle.pm_base.proofs.ReadBack.{read_small, equal_small}
use Rattle.pm_pick.specs.Rays.{Ray}
use Rattle.pm_pick.proofs.WayLaws.{apart_is}
use Rattle.pm_pick.proofs.ray.Ray.way_to.Goals as goal

pub apart-requires : goal.apart-requires
apart-requires c = record {
  at_small =
      equal_small w32 c.x.result c.args.p.x 32767 c.x.ensures.value c.x.ensures.in_range.0
      (lit< tt);
  origin_small =
      read_small w32 c.self.inside.origin.x 16777215 c.self.invariant.origin_x (lit< tt);
}

pub apart-requires-2 : goal.apart-requires-2
apart-requires-2 c = record {
  at_small =
      equal_small w32 c.y.result c.args.p.y 32767 c.y.ensures.value c.y.ensures.in_range.1
      (lit< tt);
  origin_small =
      read_small w32 c.self.inside.origin.y 16777215 c.self.invariant.origin_y (lit< tt);
}

pub apart-requires-3 : goal.apart-requires-3
apart-requires-3 c = record {
  at_small =
      equal_small w32 c.z.result c.args.p.z 32767 c.z.ensures.value c.z.ensures.in_range.2
      (lit< tt);
  origin_small =
      read_small w32 c.self.inside.origin.z 16777215 c.self.invariant.origin_z (lit< tt);
}

pub returns-clause-x : goal.returns-clause-x
returns-clause-x c =
    apart_is c.apart.result c.x.result c.self.inside.origin.x c.args.p.x _ c.apart.ensures.value
    c.x.ensures.value (ap (λ (r : Ray). r.origin.x) c.self.view_is) c.x.ensures.in_range.0
    c.self.invariant.origin_x c.apart.ensures.small

pub returns-clause-y : goal.returns-clause-y
returns-clause-y c =
    apart_is c.apart-2.result c.y.result c.self.inside.origin.y c.args.p.y _ c.apart-2.ensures.value
    c.y.ensures.value (ap (λ (r : Ray). r.origin.y) c.self.view_is) c.y.ensures.in_range.1
    c.self.invariant.origin_y c.apart-2.ensures.small

pub returns-clause-z : goal.returns-clause-z
returns-clause-z c =
    apart_is c.apart-3.result c.z.result c.self.inside.origin.z c.args.p.z _ c.apart-3.ensures.value
    c.z.ensures.value (ap (λ (r : Ray). r.origin.z) c.self.view_is) c.z.ensures.in_range.2
    c.self.invariant.origin_z c.apart-3.ensures.small

pub returns-clause-small : goal.returns-clause-small
returns-clause-small c = (
  read_small w64 c.apart.result 16809982 c.apart.ensures.small (lit< tt),
  read_small w64 c.apart-2.result 16809982 c.apart-2.ensures.small (lit< tt),
  read_small w64 c.apart-3.result 16809982 c.apart-3.ensures.small (lit< tt),
)
