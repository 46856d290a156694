use Rattle.pm_fine.proofs.RootLaws.{once_small, once_some, once_reaches}
use Rattle.pm_fine.proofs.border.fine_length.Goals as goal

pub returns-clause-some : goal.returns-clause-some
returns-clause-some c = once_some c.args.square c.root.result c.requires.some c.root.ensures.next

pub returns-clause-small : goal.returns-clause-small
returns-clause-small c =
    once_small c.args.square c.root.result c.requires.small c.root.ensures.square

pub returns-clause-reaches : goal.returns-clause-reaches
returns-clause-reaches c =
    once_reaches c.args.square c.root.result c.root.ensures.next (returns-clause-some c)
