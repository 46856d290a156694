use Rattle.std.proofs.Common.{◌^◌, lit<}
use mir.Syntax.{w128}
use Rattle.pm_view.specs.Wanted.{greatest_product}
use Rattle.pm_view.proofs.AxisLaws.{end_asks, ends_ask, axis_of_ends}
use Rattle.pm_view.proofs.facing.greatest_on_axis.Goals as goal

pub lower_end-requires : goal.lower_end-requires
lower_end-requires c =
    end_asks c.args.at c.args.eye c.args.radius c.requires.at_small
    c.requires.radius_small c.requires.eye_small

pub upper_end-requires : goal.upper_end-requires
upper_end-requires c =
    end_asks c.args.at c.args.eye c.args.radius c.requires.at_small
    c.requires.radius_small c.requires.eye_small

pub greatest-requires : goal.greatest-requires
greatest-requires c =
    ends_ask (2 ^ 40) (lit< tt) c.args.low c.args.high c.lower_end.result c.upper_end.result
    c.requires.low_small c.requires.high_small c.lower_end.ensures.small
    c.upper_end.ensures.small

pub returns : goal.returns
returns c =
    axis_of_ends w128 (2 ^ 74) (lit< tt) greatest_product c.greatest.result c.args.low c.args.high
    c.lower_end.result c.upper_end.result c.args.at c.args.eye c.args.radius c.ranges.at
    c.ranges.eye c.greatest.ensures.value c.greatest.ensures.small c.requires.low_small
    c.requires.high_small c.lower_end.ensures c.upper_end.ensures
