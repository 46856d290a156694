use Rattle.std.proofs.Common.{◌^◌, lit<}
use mir.Syntax.{w128}
use Rattle.pm_view.specs.Wanted.{greatest_product, greatest_facing}
use Rattle.pm_view.proofs.AxisLaws.{x_asks, y_asks, z_asks, sum_asks, facing_is}
use Rattle.pm_view.proofs.eye.Eye.greatest_facing.Goals as goal

pub greatest_on_axis-x-requires : goal.greatest_on_axis-x-requires
greatest_on_axis-x-requires c =
    x_asks c.args.normals c.args.place _ _ c.args.radius _ c.requires.box_small c.x.ensures
    c.self.invariant c.requires.radius_small

pub greatest_on_axis-y-requires : goal.greatest_on_axis-y-requires
greatest_on_axis-y-requires c =
    y_asks c.args.normals c.args.place _ _ c.args.radius _ c.requires.box_small c.y.ensures
    c.self.invariant c.requires.radius_small

pub greatest_on_axis-z-requires : goal.greatest_on_axis-z-requires
greatest_on_axis-z-requires c =
    z_asks c.args.normals c.args.place _ _ c.args.radius _ c.requires.box_small c.z.ensures
    c.self.invariant c.requires.radius_small

pub add_three-requires : goal.add_three-requires
add_three-requires c =
    sum_asks w128 (2 ^ 74) (lit< tt) c.greatest_on_axis-x.result c.greatest_on_axis-y.result
    c.greatest_on_axis-z.result c.greatest_on_axis-x.ensures.small
    c.greatest_on_axis-y.ensures.small c.greatest_on_axis-z.ensures.small

pub returns : goal.returns
unfolding greatest_facing
returns c error deviation two_sided =
    facing_is w128 (2 ^ 74) (lit< tt) (lit< tt) greatest_product c.args.normals c.args.place _ _
    c.args.radius _ _ _ _ _ _ _ c.requires.box_small c.x.ensures c.y.ensures c.z.ensures
    c.self.invariant c.greatest_on_axis-x.ensures c.greatest_on_axis-y.ensures
    c.greatest_on_axis-z.ensures c.add_three.ensures c.self.view_is
