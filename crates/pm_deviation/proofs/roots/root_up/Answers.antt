use Rattle.std.proofs.Common.{arith}
use Rattle.pm_deviation.proofs.RootLaws.{root_after, root_same, square_same}
use Rattle.pm_deviation.proofs.roots.root_up.Goals as goal

pub returns-then-square-n-clause-value : goal.returns-then-square-n-clause-value
returns-then-square-n-clause-value c =
    root_after c.args.n c.args.down c.requires.down
    (omega (
      arith,
      square_same c.from.result c.from-2.result c.args.down c.from.ensures
          c.from-2.ensures,
      c.if-square-n.true,
    ))

pub returns-else-square-n-clause-value : goal.returns-else-square-n-clause-value
returns-else-square-n-clause-value c =
    root_same c.args.n c.args.down c.requires.down
    (omega (
      arith,
      square_same c.from.result c.from-2.result c.args.down c.from.ensures
          c.from-2.ensures,
      c.if-square-n.false,
    ))
