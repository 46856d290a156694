use Rattle.pm_number.proofs.LeftLaws.{entry_fits}
use Rattle.pm_number.proofs.run.Run.entry.Goals as goal

pub returns-clause-value : goal.returns-clause-value
returns-clause-value c =
    (entry_fits c.index-self-i.result c.requires.run.merging c.requires.inside).value

pub returns-clause-made : goal.returns-clause-made
returns-clause-made c =
    (entry_fits c.index-self-i.result c.requires.run.merging c.requires.inside).made

pub returns-clause-first : goal.returns-clause-first
returns-clause-first c =
    (entry_fits c.index-self-i.result c.requires.run.merging c.requires.inside).first

pub returns-clause-second : goal.returns-clause-second
returns-clause-second c =
    (entry_fits c.index-self-i.result c.requires.run.merging c.requires.inside).second

pub returns-clause-differ : goal.returns-clause-differ
returns-clause-differ c =
    (entry_fits c.index-self-i.result c.requires.run.merging c.requires.inside).differ

pub returns-clause-left : goal.returns-clause-left
returns-clause-left c =
    (entry_fits c.index-self-i.result c.requires.run.merging c.requires.inside).left

pub returns-clause-right : goal.returns-clause-right
returns-clause-right c =
    (entry_fits c.index-self-i.result c.requires.run.merging c.requires.inside).right
