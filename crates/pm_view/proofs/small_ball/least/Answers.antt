use Rattle.std.proofs.Common.{◌^◌, lit<, w64}
use Rattle.std.specs.Int.{int_min}
use Rattle.pm_bounds.proofs.BoxLaws.{min_small}
use Rattle.pm_view.proofs.AxisLaws.{product_asks, four_chosen}
use Rattle.pm_view.proofs.small_ball.least.Goals as goal

pub product-requires : goal.product-requires
product-requires c =
    product_asks (2 ^ 26) (lit< tt) c.args.a c.args.c c.requires.a_small c.requires.c_small

pub product-requires-2 : goal.product-requires-2
product-requires-2 c =
    product_asks (2 ^ 26) (lit< tt) c.args.a c.args.d c.requires.a_small c.requires.d_small

pub product-requires-3 : goal.product-requires-3
product-requires-3 c =
    product_asks (2 ^ 26) (lit< tt) c.args.b c.args.c c.requires.b_small c.requires.c_small

pub product-requires-4 : goal.product-requires-4
product-requires-4 c =
    product_asks (2 ^ 26) (lit< tt) c.args.b c.args.d c.requires.b_small c.requires.d_small

pub returns : goal.returns
returns c =
    four_chosen w64 (2 ^ 60) (lit< tt) int_min min_small c.args.a c.args.b c.args.c c.args.d
    _ _ _ _ _ _ _ c.ranges.a c.ranges.b c.ranges.c c.ranges.d c.product.ensures
    c.product-2.ensures c.product-3.ensures c.product-4.ensures c.min.ensures.value
    c.min-2.ensures.value c.min-3.ensures.value
