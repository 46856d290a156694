use Rattle.std.proofs.Common.{◌^◌, lit≤, lit<}
use Rattle.std.proofs.Math.Nat.{le_trans}
use mir.Syntax.{w128}
use Rattle.pm_base.proofs.ReadBack.{read_small}
use Rattle.pm_fine.proofs.fine_quadric.FineQuadric.polynomial_at.Goals as goal

pub add_four-requires-clause-a_small : goal.add_four-requires-clause-a_small
add_four-requires-clause-a_small c =
    read_small w128 c.squares_at-squares.result (2 ^ 124) c.squares_at-squares.ensures.small
    (lit< tt)

pub add_four-requires-clause-b_small : goal.add_four-requires-clause-b_small
add_four-requires-clause-b_small c =
    read_small w128 c.mixed_at-mixed.result (2 ^ 124) c.mixed_at-mixed.ensures.small (lit< tt)

pub add_four-requires-clause-c_small : goal.add_four-requires-clause-c_small
add_four-requires-clause-c_small c =
    read_small w128 c.linear_at-linear.result (2 ^ 124) c.linear_at-linear.ensures.small (lit< tt)

pub add_four-requires-clause-d_small : goal.add_four-requires-clause-d_small
add_four-requires-clause-d_small c =
    read_small w128 c.self.inside.one (2 ^ 124)
    (le_trans c.self.invariant.small.one (lit≤ tt)) (lit< tt)
