use Rattle.std.proofs.Common.{◌^◌, w64, lit<}
use Rattle.pm_base.proofs.ReadBack.{read_small}
use Rattle.pm_pick.proofs.WayLaws.{minor_is}
use Rattle.pm_pick.proofs.ways.product_of.Goals as goal

pub minor-requires : goal.minor-requires
minor-requires c = record {
  a_small = read_small w64 c.args.u.y 16809982 c.requires.u_small.1 (lit< tt);
  b_small = read_small w64 c.args.u.z 16809982 c.requires.u_small.2 (lit< tt);
  c_small = read_small w64 c.args.v.y 16809982 c.requires.v_small.1 (lit< tt);
  d_small = read_small w64 c.args.v.z 16809982 c.requires.v_small.2 (lit< tt);
}

pub minor-requires-2 : goal.minor-requires-2
minor-requires-2 c = record {
  a_small = read_small w64 c.args.u.z 16809982 c.requires.u_small.2 (lit< tt);
  b_small = read_small w64 c.args.u.x 16809982 c.requires.u_small.0 (lit< tt);
  c_small = read_small w64 c.args.v.z 16809982 c.requires.v_small.2 (lit< tt);
  d_small = read_small w64 c.args.v.x 16809982 c.requires.v_small.0 (lit< tt);
}

pub minor-requires-3 : goal.minor-requires-3
minor-requires-3 c = record {
  a_small = read_small w64 c.args.u.x 16809982 c.requires.u_small.0 (lit< tt);
  b_small = read_small w64 c.args.u.y 16809982 c.requires.u_small.1 (lit< tt);
  c_small = read_small w64 c.args.v.x 16809982 c.requires.v_small.0 (lit< tt);
  d_small = read_small w64 c.args.v.y 16809982 c.requires.v_small.1 (lit< tt);
}

pub returns-clause-x : goal.returns-clause-x
returns-clause-x c =
    minor_is c.minor.result c.args.u.y c.args.u.z c.args.v.y c.args.v.z
    c.minor.ensures.value c.requires.u_small.1 c.requires.u_small.2
    c.requires.v_small.1 c.requires.v_small.2 c.minor.ensures.small

pub returns-clause-y : goal.returns-clause-y
returns-clause-y c =
    minor_is c.minor-2.result c.args.u.z c.args.u.x c.args.v.z c.args.v.x
    c.minor-2.ensures.value c.requires.u_small.2 c.requires.u_small.0
    c.requires.v_small.2 c.requires.v_small.0 c.minor-2.ensures.small

pub returns-clause-z : goal.returns-clause-z
returns-clause-z c =
    minor_is c.minor-3.result c.args.u.x c.args.u.y c.args.v.x c.args.v.y
    c.minor-3.ensures.value c.requires.u_small.0 c.requires.u_small.1
    c.requires.v_small.0 c.requires.v_small.1 c.minor-3.ensures.small

pub returns-clause-small : goal.returns-clause-small
returns-clause-small c = (
  read_small w64 c.minor.result (2 ^ 51) c.minor.ensures.small (lit< tt),
  read_small w64 c.minor-2.result (2 ^ 51) c.minor-2.ensures.small (lit< tt),
  read_small w64 c.minor-3.result (2 ^ 51) c.minor-3.ensures.small (lit< tt),
)
