use Rattle.std.proofs.Common.{◌^◌, w64, lit<}
use mir.Syntax.{w128}
use Rattle.pm_base.proofs.ReadBack.{read_small}
use Rattle.pm_pick.proofs.WayLaws.{term_is, sum_is}
use Rattle.pm_pick.proofs.ways.dot_of.Goals as goal

pub wide-requires : goal.wide-requires
wide-requires c = record {
  a_small = read_small w64 c.args.u.x (2 ^ 51) c.requires.u_small.0 (lit< tt);
  b_small = read_small w64 c.args.v.x 16809982 c.requires.v_small.0 (lit< tt);
}

pub wide-requires-2 : goal.wide-requires-2
wide-requires-2 c = record {
  a_small = read_small w64 c.args.u.y (2 ^ 51) c.requires.u_small.1 (lit< tt);
  b_small = read_small w64 c.args.v.y 16809982 c.requires.v_small.1 (lit< tt);
}

pub wide-requires-3 : goal.wide-requires-3
wide-requires-3 c = record {
  a_small = read_small w64 c.args.u.z (2 ^ 51) c.requires.u_small.2 (lit< tt);
  b_small = read_small w64 c.args.v.z 16809982 c.requires.v_small.2 (lit< tt);
}

pub add_three-requires : goal.add_three-requires
add_three-requires c = record {
  a_small = read_small w128 c.wide.result (2 ^ 76) c.wide.ensures.small (lit< tt);
  b_small = read_small w128 c.wide-2.result (2 ^ 76) c.wide-2.ensures.small (lit< tt);
  c_small = read_small w128 c.wide-3.result (2 ^ 76) c.wide-3.ensures.small (lit< tt);
}

pub returns-clause-value : goal.returns-clause-value
returns-clause-value c =
    sum_is c.add_three.result c.wide.result c.wide-2.result c.wide-3.result _ _ _
    c.add_three.ensures.value c.wide.ensures.small c.wide-2.ensures.small c.wide-3.ensures.small
    c.add_three.ensures.small
    (term_is c.wide.result c.args.u.x c.args.v.x c.wide.ensures.value
    c.requires.u_small.0 c.requires.v_small.0)
    (term_is c.wide-2.result c.args.u.y c.args.v.y c.wide-2.ensures.value
    c.requires.u_small.1 c.requires.v_small.1)
    (term_is c.wide-3.result c.args.u.z c.args.v.z c.wide-3.ensures.value
    c.requires.u_small.2 c.requires.v_small.2)

pub returns-clause-small : goal.returns-clause-small
returns-clause-small c =
    read_small w128 c.add_three.result (2 ^ 78) c.add_three.ensures.small (lit< tt)
