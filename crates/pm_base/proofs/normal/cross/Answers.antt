use Rattle.std.proofs.Common.{w64, lit<, rules}
use Rattle.pm_base.proofs.Range.{cross_small}
use Rattle.pm_base.proofs.ReadBack.{read_small}
use Rattle.pm_base.proofs.normal.cross.Goals as goal

pub minor-requires : goal.minor-requires
minor-requires c = record {
  a_small = read_small w64 c.above-by.result 65534 c.above-by.ensures.small (lit< tt);
  b_small = read_small w64 c.above-bz.result 65534 c.above-bz.ensures.small (lit< tt);
  c_small = read_small w64 c.above-cy.result 65534 c.above-cy.ensures.small (lit< tt);
  d_small = read_small w64 c.above-cz.result 65534 c.above-cz.ensures.small (lit< tt);
}

pub minor-requires-2 : goal.minor-requires-2
minor-requires-2 c = record {
  a_small = read_small w64 c.above-bz.result 65534 c.above-bz.ensures.small (lit< tt);
  b_small = read_small w64 c.above-bx.result 65534 c.above-bx.ensures.small (lit< tt);
  c_small = read_small w64 c.above-cz.result 65534 c.above-cz.ensures.small (lit< tt);
  d_small = read_small w64 c.above-cx.result 65534 c.above-cx.ensures.small (lit< tt);
}

pub minor-requires-3 : goal.minor-requires-3
minor-requires-3 c = record {
  a_small = read_small w64 c.above-bx.result 65534 c.above-bx.ensures.small (lit< tt);
  b_small = read_small w64 c.above-by.result 65534 c.above-by.ensures.small (lit< tt);
  c_small = read_small w64 c.above-cx.result 65534 c.above-cx.ensures.small (lit< tt);
  d_small = read_small w64 c.above-cy.result 65534 c.above-cy.ensures.small (lit< tt);
}

pub returns-clause-x : goal.returns-clause-x
returns-clause-x c = search rules

pub returns-clause-y : goal.returns-clause-y
returns-clause-y c = search rules

pub returns-clause-z : goal.returns-clause-z
returns-clause-z c = search rules

pub returns-clause-small : goal.returns-clause-small
returns-clause-small c =
    cross_small c.args.a c.args.b c.args.c c.x-2.ensures.in_range c.x.ensures.in_range
    c.x-3.ensures.in_range
