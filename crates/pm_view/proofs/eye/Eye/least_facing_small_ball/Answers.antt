use Rattle.std.proofs.Common.{◌^◌, lit<, w64}
use Rattle.pm_view.specs.Wanted.{least_product, least_facing}
use Rattle.pm_view.proofs.AxisLaws.{x_asks, y_asks, z_asks, sum_asks, facing_is}
use Rattle.pm_view.proofs.eye.Eye.least_facing_small_ball.Goals as goal

pub least_in_small_ball-x-requires : goal.least_in_small_ball-x-requires
least_in_small_ball-x-requires c =
    x_asks c.args.normals c.args.place _ _ c.args.radius _ c.requires.box_small c.x.ensures
    c.self.invariant c.requires.radius_small

pub least_in_small_ball-y-requires : goal.least_in_small_ball-y-requires
least_in_small_ball-y-requires c =
    y_asks c.args.normals c.args.place _ _ c.args.radius _ c.requires.box_small c.y.ensures
    c.self.invariant c.requires.radius_small

pub least_in_small_ball-z-requires : goal.least_in_small_ball-z-requires
least_in_small_ball-z-requires c =
    z_asks c.args.normals c.args.place _ _ c.args.radius _ c.requires.box_small c.z.ensures
    c.self.invariant c.requires.radius_small

pub add_three_small-requires : goal.add_three_small-requires
add_three_small-requires c =
    sum_asks w64 (2 ^ 60) (lit< tt) c.least_in_small_ball-x.result c.least_in_small_ball-y.result
    c.least_in_small_ball-z.result c.least_in_small_ball-x.ensures.small
    c.least_in_small_ball-y.ensures.small c.least_in_small_ball-z.ensures.small

pub returns : goal.returns
unfolding least_facing
returns c error deviation two_sided =
    facing_is w64 (2 ^ 60) (lit< tt) (lit< tt) least_product c.args.normals c.args.place _ _
    c.args.radius _ _ _ _ _ _ _ c.requires.box_small c.x.ensures c.y.ensures c.z.ensures
    c.self.invariant c.least_in_small_ball-x.ensures c.least_in_small_ball-y.ensures
    c.least_in_small_ball-z.ensures c.add_three_small.ensures c.self.view_is
