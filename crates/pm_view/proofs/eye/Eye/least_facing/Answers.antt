use Rattle.std.proofs.Common.{◌^◌, lit<}
use mir.Syntax.{w128}
use Rattle.pm_view.specs.Wanted.{least_product, least_facing}
use Rattle.pm_view.proofs.AxisLaws.{x_asks, y_asks, z_asks, sum_asks, facing_is}
use Rattle.pm_view.proofs.eye.Eye.least_facing.Goals as goal

pub least_on_axis-x-requires : goal.least_on_axis-x-requires
least_on_axis-x-requires c =
    x_asks c.args.normals c.args.place _ _ c.args.radius _ c.requires.box_small c.x.ensures
    c.self.invariant c.requires.radius_small

pub least_on_axis-y-requires : goal.least_on_axis-y-requires
least_on_axis-y-requires c =
    y_asks c.args.normals c.args.place _ _ c.args.radius _ c.requires.box_small c.y.ensures
    c.self.invariant c.requires.radius_small

pub least_on_axis-z-requires : goal.least_on_axis-z-requires
least_on_axis-z-requires c =
    z_asks c.args.normals c.args.place _ _ c.args.radius _ c.requires.box_small c.z.ensures
    c.self.invariant c.requires.radius_small

pub add_three-requires : goal.add_three-requires
add_three-requires c =
    sum_asks w128 (2 ^ 74) (lit< tt) c.least_on_axis-x.result c.least_on_axis-y.result
    c.least_on_axis-z.result c.least_on_axis-x.ensures.small c.least_on_axis-y.ensures.small
    c.least_on_axis-z.ensures.small

pub returns : goal.returns
unfolding least_facing
returns c error deviation two_sided =
    facing_is w128 (2 ^ 74) (lit< tt) (lit< tt) least_product c.args.normals c.args.place _ _
    c.args.radius _ _ _ _ _ _ _ c.requires.box_small c.x.ensures c.y.ensures c.z.ensures
    c.self.invariant c.least_on_axis-x.ensures c.least_on_axis-y.ensures c.least_on_axis-z.ensures
    c.add_three.ensures c.self.view_is
