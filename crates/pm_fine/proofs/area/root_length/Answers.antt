use Rattle.std.proofs.Common.{arith}
use Rattle.pm_fine.proofs.RootLaws.{twice_small, twice_some, twice_reaches}
use Rattle.pm_fine.proofs.area.root_length.Goals as goal

pub returns-clause-some : goal.returns-clause-some
returns-clause-some c =
    twice_some c.args.square c.root-once.result c.root.result c.requires.some
    c.root-once.ensures.next (omega (arith, c.root.ensures.next, c.from.ensures))

pub returns-clause-small : goal.returns-clause-small
returns-clause-small c =
    twice_small c.args.square c.root-once.result c.root.result c.requires.small
    c.root-once.ensures.square (omega (arith, c.root.ensures.square, c.from.ensures))

pub returns-clause-reaches : goal.returns-clause-reaches
returns-clause-reaches c =
    twice_reaches c.args.square c.root-once.result c.root.result c.root-once.ensures.next
    (omega (arith, c.root.ensures.next, c.from.ensures)) (returns-clause-some c)
    (returns-clause-small c)
