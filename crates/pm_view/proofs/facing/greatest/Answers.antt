use Rattle.std.proofs.Common.{◌^◌, lit<}
use mir.Syntax.{w128}
use Rattle.std.specs.Int.{int_max}
use Rattle.pm_bounds.proofs.BoxLaws.{max_small}
use Rattle.pm_view.proofs.AxisLaws.{product_asks, four_chosen}
use Rattle.pm_view.proofs.facing.greatest.Goals as goal

pub product-requires : goal.product-requires
product-requires c =
    product_asks (2 ^ 40) (lit< tt) c.args.a c.args.c c.requires.a_small c.requires.c_small

pub product-requires-2 : goal.product-requires-2
product-requires-2 c =
    product_asks (2 ^ 40) (lit< tt) c.args.a c.args.d c.requires.a_small c.requires.d_small

pub product-requires-3 : goal.product-requires-3
product-requires-3 c =
    product_asks (2 ^ 40) (lit< tt) c.args.b c.args.c c.requires.b_small c.requires.c_small

pub product-requires-4 : goal.product-requires-4
product-requires-4 c =
    product_asks (2 ^ 40) (lit< tt) c.args.b c.args.d c.requires.b_small c.requires.d_small

pub returns : goal.returns
returns c =
    four_chosen w128 (2 ^ 74) (lit< tt) int_max max_small c.args.a c.args.b c.args.c c.args.d
    _ _ _ _ _ _ _ c.ranges.a c.ranges.b c.ranges.c c.ranges.d c.product.ensures
    c.product-2.ensures c.product-3.ensures c.product-4.ensures c.max.ensures.value
    c.max-2.ensures.value c.max-3.ensures.value
