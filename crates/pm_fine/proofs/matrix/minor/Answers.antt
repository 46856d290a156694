use Rattle.std.proofs.Common.{◌^◌, lit≤, rules, lit<}
use Rattle.std.proofs.Math.Nat.{le_trans}
use mir.Syntax.{w128}
use Rattle.pm_base.proofs.ReadBack.{read_small}
use Rattle.pm_fine.proofs.Products.{read_product, product_is, difference_is}
use Rattle.pm_fine.proofs.matrix.minor.Goals as goal

pub product-requires : goal.product-requires
product-requires c =
    read_product c.args.a c.args.b (2 ^ 33) (2 ^ 33) (2 ^ 122) c.requires.a_small c.requires.b_small
    (lit≤ tt) (lit≤ tt) (lit≤ tt)

pub product-requires-2 : goal.product-requires-2
product-requires-2 c =
    read_product c.args.c c.args.d (2 ^ 33) (2 ^ 33) (2 ^ 122) c.requires.c_small c.requires.d_small
    (lit≤ tt) (lit≤ tt) (lit≤ tt)

pub minus-requires-clause-a_small : goal.minus-requires-clause-a_small
minus-requires-clause-a_small c =
    read_small w128 c.product.result (2 ^ 66)
    (le_trans c.product.ensures.small
    (read_product c.args.a c.args.b (2 ^ 33) (2 ^ 33) (2 ^ 66) c.requires.a_small c.requires.b_small
    (lit≤ tt) (lit≤ tt) (lit≤ tt))) (lit< tt)

pub minus-requires-clause-b_small : goal.minus-requires-clause-b_small
minus-requires-clause-b_small c =
    read_small w128 c.product-2.result (2 ^ 66)
    (le_trans c.product-2.ensures.small
    (read_product c.args.c c.args.d (2 ^ 33) (2 ^ 33) (2 ^ 66) c.requires.c_small c.requires.d_small
    (lit≤ tt) (lit≤ tt) (lit≤ tt))) (lit< tt)

pub returns-clause-value : goal.returns-clause-value
returns-clause-value c =
    let first = product_is _ _ _ c.product.ensures.value c.ranges.a c.ranges.b in
    let second = product_is _ _ _ c.product-2.ensures.value c.ranges.c c.ranges.d in
    difference_is _ _ _ _ _ (search rules) c.minus.ensures.value (search rules) (search rules) first
    second
