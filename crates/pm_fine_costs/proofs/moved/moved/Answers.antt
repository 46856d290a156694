use Rattle.std.proofs.Common.{w32, ◌*◌, ◌^◌, lit<}
use mir.Syntax.{w128}
use Rattle.pm_base.proofs.ReadBack.{read_small}
use Rattle.pm_fine_costs.proofs.moved.moved.Goals as goal

pub product-requires : goal.product-requires
product-requires c = record {
  a_small = read_small w128 c.args.n (2 ^ 54) c.requires.n_small (lit< tt);
  b_small = read_small w128 c.args.volume (3 * 2 ^ 70) c.requires.volume_small (lit< tt);
}

pub near-requires-clause-a_small : goal.near-requires-clause-a_small
near-requires-clause-a_small c =
    read_small w128 c.product.result (3 * 2 ^ 124) c.product.ensures.small (lit< tt)

pub less-requires : goal.less-requires
less-requires c = record {
  c_small = read_small w32 c.args.c 32767 c.requires.c_small (lit< tt);
  by_small = read_small w128 c.near.result (3 * 2 ^ 124) c.near.ensures.small (lit< tt);
}
