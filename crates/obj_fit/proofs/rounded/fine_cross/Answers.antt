use Rattle.std.proofs.Common.{◌^◌, w64, lit<}
use Rattle.pm_base.proofs.ReadBack.{read_small}
use Rattle.obj_fit.proofs.rounded.fine_cross.Goals as goal

pub minor-requires : goal.minor-requires
minor-requires c = record {
  a_small = read_small w64 c.above-by.result (2 ^ 28) c.above-by.ensures.small (lit< tt);
  b_small = read_small w64 c.above-bz.result (2 ^ 28) c.above-bz.ensures.small (lit< tt);
  c_small = read_small w64 c.above-cy.result (2 ^ 28) c.above-cy.ensures.small (lit< tt);
  d_small = read_small w64 c.above-cz.result (2 ^ 28) c.above-cz.ensures.small (lit< tt);
}

pub minor-requires-2 : goal.minor-requires-2
minor-requires-2 c = record {
  a_small = read_small w64 c.above-bz.result (2 ^ 28) c.above-bz.ensures.small (lit< tt);
  b_small = read_small w64 c.above-bx.result (2 ^ 28) c.above-bx.ensures.small (lit< tt);
  c_small = read_small w64 c.above-cz.result (2 ^ 28) c.above-cz.ensures.small (lit< tt);
  d_small = read_small w64 c.above-cx.result (2 ^ 28) c.above-cx.ensures.small (lit< tt);
}

pub minor-requires-3 : goal.minor-requires-3
minor-requires-3 c = record {
  a_small = read_small w64 c.above-bx.result (2 ^ 28) c.above-bx.ensures.small (lit< tt);
  b_small = read_small w64 c.above-by.result (2 ^ 28) c.above-by.ensures.small (lit< tt);
  c_small = read_small w64 c.above-cx.result (2 ^ 28) c.above-cx.ensures.small (lit< tt);
  d_small = read_small w64 c.above-cy.result (2 ^ 28) c.above-cy.ensures.small (lit< tt);
}
