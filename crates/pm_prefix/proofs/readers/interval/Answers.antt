use Rattle.std.proofs.Common.{sym, ◌∙◌}
use Rattle.pm_prefix.proofs.TableLaws.{grown_interval}
use Rattle.pm_prefix.proofs.readers.interval.Goals as goal

pub returns : goal.returns
returns c = sym (grown_interval c.args.forest.now c.args.node c.requires) ∙ c.interval.ensures
