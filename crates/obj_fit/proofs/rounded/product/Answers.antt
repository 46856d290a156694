use Rattle.std.proofs.Common.{◌^◌, ◌*ℤ◌, w64, to_z, of_z, lit≤, lit<}
use Rattle.pm_base.proofs.ReadBack.{read_is, product_computes, computed_small}
use Rattle.obj_fit.proofs.rounded.product.Goals as goal

pub returns-clause-value : goal.returns-clause-value
returns-clause-value c =
    let first = read_is w64 c.args.a (2 ^ 28) c.requires.a_small (lit< tt) in
    let second = read_is w64 c.args.b (2 ^ 28) c.requires.b_small (lit< tt) in
    (product_computes w64 (to_z w64 (of_z w64 c.args.a)) (to_z w64 (of_z w64 c.args.b)) c.args.a
    c.args.b (2 ^ 28) (2 ^ 28) (2 ^ 56) first second c.requires.a_small c.requires.b_small
    (lit≤ tt) (lit< tt)).value

pub returns-clause-small : goal.returns-clause-small
returns-clause-small c =
    let first = read_is w64 c.args.a (2 ^ 28) c.requires.a_small (lit< tt) in
    let second = read_is w64 c.args.b (2 ^ 28) c.requires.b_small (lit< tt) in
    computed_small w64 (to_z w64 (of_z w64 c.args.a) *ℤ to_z w64 (of_z w64 c.args.b))
    (c.args.a *ℤ c.args.b) (2 ^ 56)
    (product_computes w64 (to_z w64 (of_z w64 c.args.a)) (to_z w64 (of_z w64 c.args.b)) c.args.a
    c.args.b (2 ^ 28) (2 ^ 28) (2 ^ 56) first second c.requires.a_small c.requires.b_small
    (lit≤ tt) (lit< tt))
